-- What a node gives when it hands over all: a GiveBack for each queue and set, and its processes in a parcel. All of it
-- goes to the leader.
use Rattle.std.proofs.Common.{◌≡◌, ◌≢◌, ℕ, Bool, true, false, ◌&&◌, ◌||◌, cond, List, [], ◌∷◌, ◌++◌, map, fold, filter, nat_eq, Option, Some, None, is_some, Contains, refl, ap, sym, subst, ◌∙◌, inl, inr, append-nil, append_assoc}
use Rattle.std.specs.List.{AllByRecursion, list_any, flat_map}
use Rattle.std.proofs.lemmas.Bool.{cases_eq, eq-eqb, ne_eqb, false≢true}
use Rattle.std.proofs.lemmas.List.{map-append}
use Rattle.std.proofs.lemmas.List.Elements.{filter-append, Contains-append_left, Contains-append_right, Contains-push}
use Rattle.pico_base.specs.declared.call.Call.{Call}
use Rattle.pico_base.specs.declared.numbers.Name.{Name}
use Rattle.pico_base.specs.declared.numbers.Name.TheVariants.{Proc, Msg, Sem}
use Rattle.rpc_frame.specs.declared.deed.PackedDeed.{PackedDeed}
use Rattle.rpc_frame.specs.declared.deed.Parcel.{Parcel}
use Rattle.rpc_frame.specs.declared.frame.Frame.{Frame}
use Rattle.rpc_frame.specs.declared.frame.Frame.TheVariants as frames
use Rattle.number_maps.specs.Maps.{Numbered, get}
use Rattle.number_maps.specs.Rising.{IsRising}
use Rattle.number_maps.proofs.LookUps.{get-first, get-later, filter-kept, filter-dropped}
use Rattle.number_maps.proofs.Rising.{above-first, rising-rest, get-above}
use Rattle.node_model.specs.Kinds.{is_same_name, get_named}
use Rattle.node_model.specs.Bodies.{Body, Deeds}
use Rattle.node_model.specs.Spelling.{pack}
use Rattle.node_model.specs.Parcels.{pack_all, give_back, parcel_of, give_all}
use Rattle.world_model.specs.Step.{Step}
use Rattle.world_model.specs.Lives.{send_to_leader}
use Rattle.world_model.specs.Census.{brings}
use Rattle.world_laws.specs.Ways.{is_left_frame}
use Rattle.world_laws.proofs.Sends.{frame_if}
use Rattle.world_laws.proofs.Changes.{frames_if, sent}

-- what a node holds stands by rising number, so each name once
pub record AreRising (deeds : Deeds) : Type 0 where
  pub processes : IsRising deeds.processes
  pub queues : IsRising deeds.queues
  pub sets : IsRising deeds.sets

-- ---- all to the leader

-- these frames, each sent to node 1
abbrev pub to_leader : List Frame → List (ℕ × Frame)
to_leader fs = map (λ f. (1, f)) fs

-- a step that sends these to the leader, one after another
pub fold-sends : (s : Step) (fs : List Frame) → fold send_to_leader s fs ≡ record s { sends = s.sends ++ to_leader fs }
fold-sends s [] = λ i. record {
  node = s.node;
  entries = s.entries;
  sends = (sym (append-nil s.sends)) i;
  strikes = s.strikes;
}
fold-sends s (f ∷ fs) =
    fold-sends (send_to_leader s f) fs
    ∙ (λ i. record {
      node = s.node;
      entries = s.entries;
      sends = append_assoc s.sends ((1, f) ∷ []) (to_leader fs) i;
      strikes = s.strikes;
    })

-- of frames with their receivers, those to a node
abbrev those_to : ℕ → List (ℕ × Frame) → List Frame
those_to to sends = flat_map (λ s. frame_if (nat_eq to s.0) s.1) sends

sent-to-leader : (fs : List Frame) → those_to 1 (to_leader fs) ≡ fs
sent-to-leader [] = refl
sent-to-leader (f ∷ fs) = ap (λ gs. f ∷ gs) (sent-to-leader fs)

sent-to-others : (to : ℕ) (fs : List Frame) → to ≢ 1 → those_to to (to_leader fs) ≡ []
sent-to-others to [] d = refl
sent-to-others to (f ∷ fs) d =
    ap (λ b. frame_if b f ++ those_to to (to_leader fs)) (ne_eqb to 1 d) ∙ sent-to-others to fs d

-- what a filter keeps of them is in the stream to the leader from their node
pub kept-of-all-sent : (test : Frame → Bool) (p : ℕ) (fs : List Frame) (to sender : ℕ)
    → filter test (sent p (to_leader fs) to sender) ≡ cond (nat_eq to 1 && nat_eq sender p) (filter test fs) []
kept-of-all-sent test p fs to sender =
    elim (cases_eq to 1) [
      | inl e ↦
          ap (λ ys. filter test (frames_if (nat_eq sender p) ys))
          (ap (λ y. those_to y (to_leader fs)) e ∙ sent-to-leader fs)
          ∙ one-stream (nat_eq sender p)
          ∙ ap (λ t. cond (t && nat_eq sender p) (filter test fs) []) (sym (eq-eqb to 1 e))
      | inr d ↦
          ap (λ ys. filter test (frames_if (nat_eq sender p) ys)) (sent-to-others to fs d)
          ∙ none-there (nat_eq sender p)
          ∙ ap (λ t. cond (t && nat_eq sender p) (filter test fs) []) (sym (ne_eqb to 1 d))
    ]
  where
    one-stream : (t : Bool) → filter test (frames_if t fs) ≡ cond (true && t) (filter test fs) []
    one-stream true = refl
    one-stream false = refl

    none-there : (t : Bool) → filter test (frames_if t []) ≡ cond (false && t) (filter test fs) []
    none-there true = refl
    none-there false = refl

-- ---- what is said of each

given-of : (P : ℕ × Frame → Type 0) → ((deed : PackedDeed) → P (1, frames.GiveBack deed)) → (packs : List PackedDeed)
    (parcel : Parcel) → P (1, frames.Left parcel)
    → AllByRecursion P (to_leader (map give_back packs ++ frames.Left parcel ∷ []))
given-of P back [] parcel left = (left, tt)
given-of P back (deed ∷ packs) parcel left = (back deed, given-of P back packs parcel left)

-- what holds of each GiveBack and of the Left holds of all that is given
pub all-given : (P : ℕ × Frame → Type 0) → ((deed : PackedDeed) → P (1, frames.GiveBack deed)) → (deeds : Deeds)
    (pid parent : ℕ) (call : Call) → P (1, frames.Left (parcel_of deeds pid parent call))
    → AllByRecursion P (to_leader (give_all deeds pid parent call))
all-given P back deeds pid parent call left =
    given-of P back (pack_all Msg deeds.queues ++ pack_all Sem deeds.sets) (parcel_of deeds pid parent call) left

-- ---- the deeds of one name

abbrev one_given : (ℕ → Name) → ℕ → Option Body → List Frame
one_given name id None = []
one_given name id (Some body) = frames.GiveBack (pack (name id) body) ∷ []

gives-one : (name : ℕ → Name) (id : ℕ) → ((k : ℕ) → is_same_name (name id) (name k) ≡ nat_eq id k) → (m : Numbered Body)
    → IsRising m → (o : Option Body) → get m id ≡ o
    → filter (brings (name id)) (map give_back (pack_all name m)) ≡ one_given name id o
gives-one name id same [] rises o there = ap (one_given name id) there
gives-one name id same (e ∷ m) rises o there =
    elim (cases_eq id e.0) [
      | inl g ↦
          filter-kept (brings (name id)) (give_back (pack (name e.0) e.1)) (map give_back (pack_all name m))
          (same e.0 ∙ eq-eqb id e.0 g)
          ∙ ap (λ fs. give_back (pack (name e.0) e.1) ∷ fs)
          (gives-one name id same m (rising-rest e m rises) None
          (subst (λ k. get m k ≡ None) (sym g) (get-above e.0 m (above-first e m rises))))
          ∙ ap (λ k. frames.GiveBack (pack (name k) e.1) ∷ []) (sym g)
          ∙ ap (one_given name id) (sym (get-first e m id g) ∙ there)
      | inr d ↦
          filter-dropped (brings (name id)) (give_back (pack (name e.0) e.1)) (map give_back (pack_all name m))
          (same e.0 ∙ ne_eqb id e.0 d)
          ∙ gives-one name id same m (rising-rest e m rises) o (sym (get-later e m id d) ∙ there)
    ]

gives-none : (name : ℕ → Name) (other : Name) → ((k : ℕ) → is_same_name other (name k) ≡ false) → (m : Numbered Body)
    → filter (brings other) (map give_back (pack_all name m)) ≡ []
gives-none name other apart [] = refl
gives-none name other apart (e ∷ m) =
    filter-dropped (brings other) (give_back (pack (name e.0) e.1)) (map give_back (pack_all name m)) (apart e.0)
    ∙ gives-none name other apart m

-- its parcel has the deed of each process that it has
pub packed-has : (pid : ℕ) (m : Numbered Body)
    → list_any (λ deed. is_same_name (Proc pid) deed.name) (pack_all Proc m) ≡ is_some (get m pid)
packed-has pid [] = refl
packed-has pid (e ∷ m) =
    elim (cases_eq pid e.0) [
      | inl g ↦
          ap (λ t. t || list_any (λ deed. is_same_name (Proc pid) deed.name) (pack_all Proc m)) (eq-eqb pid e.0 g)
          ∙ sym (ap is_some (get-first e m pid g))
      | inr d ↦
          ap (λ t. t || list_any (λ deed. is_same_name (Proc pid) deed.name) (pack_all Proc m)) (ne_eqb pid e.0 d)
          ∙ packed-has pid m ∙ sym (ap is_some (get-later e m pid d))
    ]

packed-lacks : (other : Name) → ((k : ℕ) → is_same_name other (Proc k) ≡ false) → (m : Numbered Body)
    → list_any (λ deed. is_same_name other deed.name) (pack_all Proc m) ≡ false
packed-lacks other apart [] = refl
packed-lacks other apart (e ∷ m) =
    ap (λ t. t || list_any (λ deed. is_same_name other deed.name) (pack_all Proc m)) (apart e.0)
    ∙ packed-lacks other apart m

-- the frame that brings a name's deed to the leader
abbrev pub frame_of : Name → Body → Parcel → Frame
frame_of (Proc pid) body parcel = frames.Left parcel
frame_of (Msg id) body parcel = frames.GiveBack (pack (Msg id) body)
frame_of (Sem id) body parcel = frames.GiveBack (pack (Sem id) body)

abbrev pub given : Name → Option Body → Parcel → List Frame
given name None parcel = []
given name (Some body) parcel = frame_of name body parcel ∷ []

parts-of : (test : Frame → Bool) (qs ss : List PackedDeed) (parcel : Parcel)
    → filter test (map give_back (qs ++ ss) ++ frames.Left parcel ∷ [])
    ≡ filter test (map give_back qs) ++ (filter test (map give_back ss) ++ filter test (frames.Left parcel ∷ []))
parts-of test qs ss parcel =
    filter-append test (map give_back (qs ++ ss)) (frames.Left parcel ∷ [])
    ∙ ap (λ xs. filter test xs ++ filter test (frames.Left parcel ∷ [])) (map-append give_back qs ss)
    ∙ ap (λ xs. xs ++ filter test (frames.Left parcel ∷ []))
    (filter-append test (map give_back qs) (map give_back ss))
    ∙ append_assoc (filter test (map give_back qs)) (filter test (map give_back ss))
    (filter test (frames.Left parcel ∷ []))

proc-given : (id : ℕ) (parcel : Parcel) (o : Option Body)
    → cond (is_some o) (frames.Left parcel ∷ []) [] ≡ given (Proc id) o parcel
proc-given id parcel None = refl
proc-given id parcel (Some body) = refl

msg-given : (id : ℕ) (parcel : Parcel) (o : Option Body) → one_given Msg id o ++ [] ≡ given (Msg id) o parcel
msg-given id parcel None = refl
msg-given id parcel (Some body) = refl

sem-given : (id : ℕ) (parcel : Parcel) (o : Option Body) → one_given Sem id o ++ [] ≡ given (Sem id) o parcel
sem-given id parcel None = refl
sem-given id parcel (Some body) = refl

-- of all that is given, one frame brings a name that the node has, and none any other
pub gives-name : (deeds : Deeds) (pid parent : ℕ) (call : Call) → AreRising deeds → (name : Name) (o : Option Body)
    → get_named deeds name ≡ o
    → filter (brings name) (give_all deeds pid parent call) ≡ given name o (parcel_of deeds pid parent call)
gives-name deeds pid parent call rises (Proc id) o there =
    parts-of (brings (Proc id)) (pack_all Msg deeds.queues) (pack_all Sem deeds.sets) (parcel_of deeds pid parent call)
    ∙ (λ i. gives-none Msg (Proc id) (λ k. refl) deeds.queues i
    ++ (gives-none Sem (Proc id) (λ k. refl) deeds.sets i
    ++ cond ((packed-has id deeds.processes
    ∙ ap is_some there) i) (frames.Left (parcel_of deeds pid parent call) ∷ []) []))
    ∙ proc-given id (parcel_of deeds pid parent call) o
gives-name deeds pid parent call rises (Msg id) o there =
    parts-of (brings (Msg id)) (pack_all Msg deeds.queues) (pack_all Sem deeds.sets) (parcel_of deeds pid parent call)
    ∙ (λ i. gives-one Msg id (λ k. refl) deeds.queues rises.queues o there i
    ++ (gives-none Sem (Msg id) (λ k. refl) deeds.sets i
    ++ cond (packed-lacks (Msg id) (λ k. refl) deeds.processes i) (frames.Left
    (parcel_of deeds pid parent call) ∷ []) []))
    ∙ msg-given id (parcel_of deeds pid parent call) o
gives-name deeds pid parent call rises (Sem id) o there =
    parts-of (brings (Sem id)) (pack_all Msg deeds.queues) (pack_all Sem deeds.sets) (parcel_of deeds pid parent call)
    ∙ (λ i. gives-none Msg (Sem id) (λ k. refl) deeds.queues i
    ++ (gives-one Sem id (λ k. refl) deeds.sets rises.sets o there i
    ++ cond (packed-lacks (Sem id) (λ k. refl) deeds.processes i) (frames.Left
    (parcel_of deeds pid parent call) ∷ []) []))
    ∙ sem-given id (parcel_of deeds pid parent call) o

no-left-back : (packs : List PackedDeed) → filter is_left_frame (map give_back packs) ≡ []
no-left-back [] = refl
no-left-back (deed ∷ packs) = no-left-back packs

-- one of them is the Left
pub gives-left : (deeds : Deeds) (pid parent : ℕ) (call : Call)
    → filter is_left_frame (give_all deeds pid parent call) ≡ frames.Left (parcel_of deeds pid parent call) ∷ []
gives-left deeds pid parent call =
    parts-of is_left_frame (pack_all Msg deeds.queues) (pack_all Sem deeds.sets) (parcel_of deeds pid parent call)
    ∙ (λ i. no-left-back (pack_all Msg deeds.queues) i
    ++ (no-left-back (pack_all Sem deeds.sets) i ++ frames.Left (parcel_of deeds pid parent call) ∷ []))

-- ---- what the parcel has

-- the deed of each process that the node has
pub packed-there : (pid : ℕ) (m : Numbered Body) (body : Body) → get m pid ≡ Some body
    → Contains (pack_all Proc m) (pack (Proc pid) body)
packed-there pid [] body there = absurd (nothing there)
  where
    nothing : None ≡ Some body → ⊥
    nothing e = false≢true (ap is_some e)
packed-there pid (e ∷ m) body there =
    elim (cases_eq pid e.0) [
      | inl g ↦
          subst (λ d. Contains (pack_all Proc (e ∷ m)) d)
          (ap (λ k. pack (Proc k) e.1) (sym g) ∙ ap (pack (Proc pid)) (some-same (sym (get-first e m pid g) ∙ there)))
          (Contains-append_left (pack (Proc e.0) e.1 ∷ []) (pack_all Proc m) (pack (Proc e.0) e.1)
          (Contains-push [] (pack (Proc e.0) e.1)))
      | inr d ↦
          Contains-append_right (pack (Proc e.0) e.1 ∷ []) (pack_all Proc m) (pack (Proc pid) body)
          (packed-there pid m body (sym (get-later e m pid d) ∙ there))
    ]
  where
    some-same : {A : Type 0} {x y : A} → Some x ≡ Some y → x ≡ y
    some-same e = cc

-- what holds of each body that a map leads to holds of all in it
pub all-of-map : {V : Type 0} (P : ℕ × V → Type 0) (m : Numbered V) → IsRising m
    → ((k : ℕ) (body : V) → get m k ≡ Some body → P (k, body)) → AllByRecursion P m
all-of-map P [] rises f = tt
all-of-map {V} P (e ∷ m) rises f = (
  f e.0 e.1 (get-first e m e.0 refl),
  all-of-map P m (rising-rest e m rises)
      (λ k body there. f k body (get-later e m k (λ g. not-first k body there g) ∙ there)),
)
  where
    not-first : (k : ℕ) (body : V) → get m k ≡ Some body → k ≢ e.0
    not-first k body there g =
        false≢true (ap is_some (sym (get-above e.0 m (above-first e m rises)) ∙ ap (get m) (sym g) ∙ there))
