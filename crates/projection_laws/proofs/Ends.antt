-- Where the call is that ends a process: at its node, until that hands over what it has, and then in one parcel, until
-- it is carried out.
use Rattle.std.proofs.Common.{◌≡◌, ◌≢◌, ℕ, ◌+◌, ◌≤◌, Bool, true, false, ◌&&◌, nat_eq, List, [], filter, Some, Contains, refl, ap, sym, subst, ◌∙◌, inl, inr, arith}
use Rattle.std.specs.Prelude.{count_by}
use Rattle.std.proofs.lemmas.Bool.{eq-eqb, eqb-true, false≢true, ne_eqb}
use Rattle.pico_base.specs.declared.call.Call.{Call}
use Rattle.pico_base.specs.declared.numbers.Name.{Name}
use Rattle.pico_base.specs.declared.numbers.Name.TheVariants.{Proc, Msg, Sem}
use Rattle.pico_base.specs.declared.script.Script.{Script}
use Rattle.rpc_frame.specs.declared.deed.Parcel.{Parcel}
use Rattle.rpc_frame.specs.declared.frame.Frame.{Frame}
use Rattle.rpc_frame.specs.declared.frame.Frame.TheVariants as frames
use Rattle.kernel_laws.proofs.Plain.{from_some, not_some}
use Rattle.node_model.specs.declared.held.Held.{Held}
use Rattle.node_model.specs.declared.held.Held.TheVariants.{Request, Ending}
use Rattle.node_model.specs.Bodies.{Body}
use Rattle.node_model.specs.Directory.{has_deed_of, held_for, is_parcel_with}
use Rattle.world_model.specs.Census.{brings, one_if}
use Rattle.world_model.specs.World.{World, node_count, size, stream}
use Rattle.world_laws.specs.Callers.{is_held_at, is_in_stream}
use Rattle.world_laws.specs.Invariant.{Holds}
use Rattle.world_laws.specs.Names.{HasDeed, IsBringer, IsExitOf, IsItemWith, IsLeftOf, NameHolds, OneIf, forker, is_kept_for, is_stream_of, name_sight, node_in}
use Rattle.world_laws.specs.Places.{Beside, DeedPlace, Ends, InLeft, InKept, InHand, InExitTo}
use Rattle.world_laws.specs.Sights.{directory_of, frames_to, is_born_in, node_of}
use Rattle.world_laws.specs.Ways.{IsParcelIn, kept as kept_in, under_way_of}
use Rattle.world_laws.proofs.Steps.{frames-low}
use Rattle.rest_laws.proofs.Census.{is_way, one-is-some, stream-is, way_from, way_to}
use Rattle.rest_laws.proofs.Senders.{carrier}
use Rattle.rest_laws.proofs.Shaped.{HasStream, stream-there}
use Rattle.projection_laws.specs.Projection.{frames_that, has_call, item_has_call, items_that}
use Rattle.projection_laws.proofs.CallCounts.{about-is, call-frame, held-none, pid-is}
use Rattle.projection_laws.proofs.Counts.{count-among, count-none, frames-at, frames-none, items-none, items-one}
use Rattle.projection_laws.proofs.Deeds.{IsInParcel, held-for-parent, in-held, in-stream, parcel_in}
use Rattle.projection_laws.proofs.Parcels.{own-deed, parcel-of-frame, parcel-of-item}
use Rattle.projection_laws.proofs.Views.{node-here, some-node, stream-in-range}

both-true : (s t : Bool) → s ≡ true → t ≡ true → (s && t) ≡ true
both-true s t e f = rw (e, f) refl

ending-is : (p q : Parcel) → Ending p ≡ Ending q → p ≡ q
ending-is p q e = cc

queue-apart : (id q : ℕ) → Msg id ≡ Proc q → ⊥
queue-apart id q e = cc

set-apart : (id q : ℕ) → Sem id ≡ Proc q → ⊥
set-apart id q e = cc

-- what an only one counts for
count-one : {A : Type 0} (P : A → Type 0) (test : A → Bool) (t : Bool) (xs : List A) → OneIf t P xs
    → (t ≡ true → (x : A) → P x → test x ≡ true) → count_by test xs ≡ one_if t
count-one P test false xs one passes = ap (count_by test) one
count-one P test true xs one passes =
    ap (count_by test) one.only ∙ ap (λ s. let n : ℕ = 0 + one_if s in n) (passes refl one.one one.holds)

module _ (script : Script) (w : World) (b : Beside) (holds : Holds script w [] b) (p : ℕ) (low : 1 ≤ p)
    (high : p ≤ node_count script) (call : Call) (under : under_way_of w p ≡ Some call) (at_end : b.call p ≡ Ends) where
  abbrev pid : ℕ
  pid = (node_of w p).pid

  abbrev own : Name
  own = Proc (b.pids p)

  abbrev deed : DeedPlace
  deed = b.deed own

  abbrev body : Body
  body = b.body own

  known : NameHolds script b.pids (is_born_in w) own (name_sight script w [] b own)
  known = holds.names own

  its-pid : pid ≡ b.pids p
  its-pid = pid-is script w b holds p low high call under

  -- ---- the frames and items that have it are parcels of its process

  frame-parcel : (to sender : ℕ) (f : Frame) → Contains (frames_to w to sender) f → has_call p pid to sender f ≡ true
      → (parcel : Parcel) × (parcel_in f ≡ Some parcel) × (parcel.pid ≡ pid)
  frame-parcel to sender f at has =
      elim (call-frame p pid to sender f has) [
        | inl about ↦
            let is = about-is script w b holds p low high call under to sender f at about
            in absurd (false≢true (sym (ap (λ q. is_in_stream q p to sender) at_end) ∙ is.0))
        | inr parcel ↦ parcel
      ]

  item-parcel : (name : Name) (item : Held) → Contains (held_for (directory_of w) name) item
      → item_has_call p pid item ≡ true → (parcel : Parcel) × (item ≡ Ending parcel) × (parcel.pid ≡ pid)
  item-parcel name (Request asked) at has =
      absurd (held-none script w b holds p low high call under name (ap (λ q. is_held_at q name) at_end) asked at has)
  item-parcel name (Ending parcel) at has = (parcel, refl, eqb-true parcel.pid pid has)

  -- such a parcel has the process's deed
  frame-has-own : (to sender : ℕ) (f : Frame) (parcel : Parcel) → Contains (frames_to w to sender) f
      → parcel_in f ≡ Some parcel → parcel.pid ≡ pid → brings own f ≡ true
  frame-has-own to sender f parcel at is of =
      brings-it f is
      (ap (λ q. has_deed_of (Proc q) parcel) (sym its-pid ∙ sym of)
      ∙ own-deed script w b holds parcel (parcel-of-frame script w b holds to sender f parcel at is))
    where
      some-parcel : (q r : Parcel) → Some q ≡ Some r → q ≡ r
      some-parcel q r e = cc

      brings-it : (g : Frame) → parcel_in g ≡ Some parcel → has_deed_of own parcel ≡ true → brings own g ≡ true
      brings-it (frames.Left q) e has = ap (has_deed_of own) (some-parcel q parcel e) ∙ has
      brings-it (frames.ExitTo q) e has = ap (has_deed_of own) (some-parcel q parcel e) ∙ has
      brings-it g e has = not_some parcel e

  item-has-own : (name : Name) (parcel : Parcel) → Contains (held_for (directory_of w) name) (Ending parcel)
      → parcel.pid ≡ pid → has_deed_of own parcel ≡ true
  item-has-own name parcel at of =
      ap (λ q. has_deed_of (Proc q) parcel) (sym its-pid ∙ sym of)
      ∙ own-deed script w b holds parcel
      (kept_in parcel.parent (parcel-of-item script w b holds name parcel at))

  -- ---- none has it

  abbrev HasNone : Type 0
  HasNone =
      (parcel : Parcel) → IsParcelIn w [] parcel → parcel.pid ≡ pid → IsInParcel script w b holds own parcel → ⊥

  module _ (no-parcel : HasNone) where
    none-in-stream : (to sender : ℕ) (f : Frame) → Contains (frames_to w to sender) f
        → has_call p pid to sender f ≡ false
    none-in-stream to sender f at = by-test (has_call p pid to sender f) refl
      where
        by-test : (t : Bool) → has_call p pid to sender f ≡ t → has_call p pid to sender f ≡ false
        by-test false e = e
        by-test true e =
            let q = frame-parcel to sender f at e
            in absurd
            (no-parcel q.0 (parcel-of-frame script w b holds to sender f q.0 at q.1) q.2
            (in-stream script w b holds to sender f q.0 at q.1 own (frame-has-own to sender f q.0 at q.1 q.2)))

    pub no-frames : frames_that w (has_call p pid) ≡ 0
    no-frames =
        frames-none w (has_call p pid)
        (λ to sender low_to low_from.
        ap (count_by (has_call p pid to sender)) (sym (frames-low w to sender low_to low_from))
        ∙ count-none (has_call p pid to sender) (frames_to w to sender) (λ f at. none-in-stream to sender f at))

    none-in-list : (name : Name) (item : Held) → Contains (held_for (directory_of w) name) item
        → item_has_call p pid item ≡ false
    none-in-list name item at = by-test (item_has_call p pid item) refl
      where
        by-test : (t : Bool) → item_has_call p pid item ≡ t → item_has_call p pid item ≡ false
        by-test false e = e
        by-test true e =
            let q = item-parcel name item at e
            in let here : Contains (held_for (directory_of w) name) (Ending q.0) =
            subst (λ i. Contains (held_for (directory_of w) name) i) q.1 at
            in let listed : Contains (held_for (directory_of w) (Proc (q.0).parent)) (Ending q.0) =
            parcel-of-item script w b holds name q.0 here
            in absurd
            (no-parcel q.0 (kept_in (q.0).parent listed) q.2
            (in-held script w b holds (q.0).parent q.0 listed own (item-has-own name q.0 here q.2)))

    pub no-items : items_that w (item_has_call p pid) ≡ 0
    no-items =
        items-none (item_has_call p pid) w holds.leading
        (node-here script w b holds 1 (omega arith) (some-node script w b holds))
        (λ name. count-none (item_has_call p pid) (held_for (directory_of w) name)
        (λ item at. none-in-list name item at))

  -- ---- one has it, where its process's deed is in its own parcel

  module _ (place : DeedPlace) (at_place : deed ≡ place) (carried : carrier place ≡ Some p) where
    carried-call : (q : DeedPlace) (to sender : ℕ) (f : Frame) → carrier q ≡ Some p
        → is_stream_of (forker script) q to sender ≡ true → IsBringer b.pids own body q f
        → has_call p pid to sender f ≡ true
    carried-call (InLeft g) to sender f c e is =
        let it : IsLeftOf own body (b.pids g) f = is
        in let has : HasDeed own body (b.pids g) it.parcel = it.has
        in let node : g ≡ p = from_some g p c
        in ap (has_call p pid to sender) it.is
        ∙ eq-eqb (it.parcel).pid pid (has.of_process ∙ ap b.pids node ∙ sym its-pid)
    carried-call (InExitTo g x) to sender f c e is =
        let it : IsExitOf own body (b.pids g) f = is
        in let has : HasDeed own body (b.pids g) it.parcel = it.has
        in let node : g ≡ p = from_some g p c
        in ap (has_call p pid to sender) it.is
        ∙ eq-eqb (it.parcel).pid pid (has.of_process ∙ ap b.pids node ∙ sym its-pid)
    carried-call (InKept g) to sender f c e is = absurd (false≢true e)
    carried-call (InHand g) to sender f c e is = absurd (false≢true e)
    carried-call q to sender f c e is = not_some p c

    streams-at : (to sender : ℕ)
        → OneIf (is_stream_of (forker script) place to sender) (IsBringer b.pids own body place)
        (filter (brings own) (frames_to w to sender))
    streams-at to sender =
        subst (λ q. OneIf (is_stream_of (forker script) q to sender) (IsBringer b.pids own body q)
        (filter (brings own) (frames_to w to sender))) at_place (known.streams to sender)

    not-brought : (to sender : ℕ) (f : Frame) → Contains (frames_to w to sender) f → brings own f ≡ false
        → has_call p pid to sender f ≡ false
    not-brought to sender f at none = by-test (has_call p pid to sender f) refl
      where
        by-test : (t : Bool) → has_call p pid to sender f ≡ t → has_call p pid to sender f ≡ false
        by-test false e = e
        by-test true e =
            let q = frame-parcel to sender f at e
            in absurd (false≢true (sym none ∙ frame-has-own to sender f q.0 at q.1 q.2))

    stream-count : (to sender : ℕ) → 1 ≤ to → 1 ≤ sender → count_by (has_call p pid to sender) (stream w to sender)
        ≡ one_if (is_way place && (nat_eq to (way_to place) && nat_eq sender (way_from (forker script) place)))
    stream-count to sender low_to low_from =
        ap (count_by (has_call p pid to sender)) (sym (frames-low w to sender low_to low_from))
        ∙ count-among (has_call p pid to sender) (brings own) (frames_to w to sender)
        (λ f at none. not-brought to sender f at none)
        ∙ count-one (IsBringer b.pids own body place) (has_call p pid to sender)
        (is_stream_of (forker script) place to sender) (filter (brings own) (frames_to w to sender))
        (streams-at to sender)
        (λ e f is. carried-call place to sender f carried e is)
        ∙ ap one_if (stream-is (forker script) place to sender)

    stream-range : is_way place ≡ true → ((1 ≤ way_to place) × (way_to place ≤ size w))
        × ((1 ≤ way_from (forker script) place) × (way_from (forker script) place ≤ size w))
    stream-range way =
        let to : ℕ = way_to place
        in let sender : ℕ = way_from (forker script) place
        in let s : HasStream w to sender =
        stream-there w to sender
        (one-is-some (is_stream_of (forker script) place to sender) (IsBringer b.pids own body place) (brings own)
        (frames_to w to sender) (streams-at to sender)
        (stream-is (forker script) place to sender
        ∙ both-true (is_way place) (nat_eq to to && nat_eq sender sender) way
        (both-true (nat_eq to to) (nat_eq sender sender) (eq-eqb to to refl) (eq-eqb sender sender refl))))
        in let range = stream-in-range script w b holds to sender s
        in ((s.low, range.0), (s.low_from, range.1))

    pub frames-counted : frames_that w (has_call p pid) ≡ one_if (is_way place)
    frames-counted =
        frames-at w (has_call p pid) (is_way place) (way_to place) (way_from (forker script) place) stream-range
        stream-count

    -- ---- held

    abbrev IsItem : Held → Type 0
    IsItem item = IsItemWith own body (b.pids (node_in place)) item

    kept-at : (q : ℕ) → OneIf (is_kept_for (forker script) b.pids place q) IsItem
        (filter (is_parcel_with own) (held_for (directory_of w) (Proc q)))
    kept-at q =
        subst (λ d. OneIf (is_kept_for (forker script) b.pids d q) (IsItemWith own body (b.pids (node_in d)))
        (filter (is_parcel_with own) (held_for (directory_of w) (Proc q)))) at_place (known.kept q)

    not-with : (name : Name) (item : Held) → Contains (held_for (directory_of w) name) item
        → is_parcel_with own item ≡ false → item_has_call p pid item ≡ false
    not-with name item at none = by-test (item_has_call p pid item) refl
      where
        by-test : (t : Bool) → item_has_call p pid item ≡ t → item_has_call p pid item ≡ false
        by-test false e = e
        by-test true e =
            let q = item-parcel name item at e
            in absurd
            (false≢true
            (sym none ∙ ap (is_parcel_with own) q.1
            ∙ item-has-own name q.0 (subst (λ i. Contains (held_for (directory_of w) name) i) q.1 at) q.2))

    carried-item : (q : ℕ) → is_kept_for (forker script) b.pids place q ≡ true → (item : Held) → IsItem item
        → item_has_call p pid item ≡ true
    carried-item q e item is =
        let has : HasDeed own body (b.pids (node_in place)) is.parcel = is.has
        in ap (item_has_call p pid) is.is
        ∙ eq-eqb (is.parcel).pid pid (has.of_process ∙ ap b.pids (node-is place e carried) ∙ sym its-pid)
      where
        node-is : (d : DeedPlace) → is_kept_for (forker script) b.pids d q ≡ true → carrier d ≡ Some p → node_in d ≡ p
        node-is (InKept g) h c = from_some g p c
        node-is d h c = absurd (false≢true h)

    list-count : (q : ℕ) → count_by (item_has_call p pid) (held_for (directory_of w) (Proc q))
        ≡ one_if (is_kept_for (forker script) b.pids place q)
    list-count q =
        count-among (item_has_call p pid) (is_parcel_with own) (held_for (directory_of w) (Proc q))
        (λ item at none. not-with (Proc q) item at none)
        ∙ count-one IsItem (item_has_call p pid) (is_kept_for (forker script) b.pids place q)
        (filter (is_parcel_with own) (held_for (directory_of w) (Proc q))) (kept-at q) (carried-item q)

    -- nothing that ends a process is held for what isn't one
    not-process : (name : Name) → ((q : ℕ) → name ≢ Proc q)
        → count_by (item_has_call p pid) (held_for (directory_of w) name) ≡ 0
    not-process name other =
        count-none (item_has_call p pid) (held_for (directory_of w) name)
        (λ item at. by-test item at (item_has_call p pid item) refl)
      where
        by-test : (item : Held) → Contains (held_for (directory_of w) name) item → (t : Bool)
            → item_has_call p pid item ≡ t → item_has_call p pid item ≡ false
        by-test item at false e = e
        by-test item at true e =
            let q = item-parcel name item at e
            in absurd
            (other (q.0).parent
            (held-for-parent script w b holds name q.0
            (subst (λ i. Contains (held_for (directory_of w) name) i) q.1 at)))

    by-name : (name : Name) → ((q : ℕ) → name ≡ Proc q → is_kept_for (forker script) b.pids place q ≡ false)
        → count_by (item_has_call p pid) (held_for (directory_of w) name) ≡ 0
    by-name (Proc q) none = list-count q ∙ ap one_if (none q refl)
    by-name (Msg id) none = not-process (Msg id) (λ q e. queue-apart id q e)
    by-name (Sem id) none = not-process (Sem id) (λ q e. set-apart id q e)

    pub items-counted-none : ((q : ℕ) → is_kept_for (forker script) b.pids place q ≡ false)
        → items_that w (item_has_call p pid) ≡ 0
    items-counted-none none =
        items-none (item_has_call p pid) w holds.leading
        (node-here script w b holds 1 (omega arith) (some-node script w b holds))
        (λ name. by-name name (λ q e. none q))

    pub items-counted-one : (parent : ℕ) → ((q : ℕ) → is_kept_for (forker script) b.pids place q ≡ nat_eq parent q)
        → items_that w (item_has_call p pid) ≡ 1
    items-counted-one parent keeps =
        items-one (item_has_call p pid) w holds.leading
        (node-here script w b holds 1 (omega arith) (some-node script w b holds)) (Proc parent)
        (λ name d. by-name name
        (λ q e. keeps q ∙ ne_eqb parent q (λ same. d (e ∙ ap Proc (sym same)))))
        ∙ list-count parent ∙ ap one_if (keeps parent ∙ eq-eqb parent parent refl)
