-- What a node's turn changes in a world: the node's own state; a frame is gone from the head of a stream to it; and
-- what it sent stands at the ends of the streams from it. In the middle of an event it is the same.
use Rattle.std.proofs.Common.{◌≡◌, ◌≢◌, ℕ, Bool, true, false, List, [], ◌∷◌, ◌++◌, filter, flat_map, nat_eq, refl, ap, sym, subst, ◌∙◌, inl, inr, append-nil}
use Rattle.std.specs.List.{AllByRecursion}
use Rattle.std.proofs.lemmas.Bool.{cases_eq, eq-eqb, ne_eqb}
use Rattle.std.proofs.lemmas.List.Elements.{filter-append}
use Rattle.pico_base.specs.declared.script.Script.{Script}
use Rattle.pico_base.specs.declared.reply.Entry.{Entry}
use Rattle.rpc_frame.specs.declared.frame.Frame.{Frame}
use Rattle.world_model.specs.Node.{Node}
use Rattle.world_model.specs.World.{World}
use Rattle.world_laws.specs.Sights.{node_of, frames_to, directory_of, stage_of, is_born_stage, is_born_in}
use Rattle.world_laws.specs.Invariant.{IsShaped}
use Rattle.world_laws.proofs.Sends.{frame_if, frames_with}
use Rattle.world_laws.proofs.Played.{flat_map-append}

-- ---- frames that a node takes and sends, each with the node at the other end

-- these frames, or none
abbrev pub frames_if : Bool → List Frame → List Frame
frames_if true fs = fs
frames_if false fs = []

-- what a node took out of the stream to a node from a node
abbrev pub taken : ℕ → List (ℕ × Frame) → ℕ → ℕ → List Frame
taken p takes to sender = frames_if (nat_eq to p) (frames_with sender takes)

-- what it put into it
abbrev pub sent : ℕ → List (ℕ × Frame) → ℕ → ℕ → List Frame
sent p sends to sender = frames_if (nat_eq sender p) (frames_with to sends)

-- Node p is now as n, it took these frames and sent those, and made these entries.
pub record Changes (script : Script) (p : ℕ) (w w' : World) (n : Node) (takes sends : List (ℕ × Frame))
    (entries : List Entry) : Type 0 where
  pub shape : IsShaped script w'
  pub here : node_of w' p ≡ n
  pub others : (x : ℕ) → x ≢ p → node_of w' x ≡ node_of w x
  pub journal : w'.journal ≡ w.journal ++ entries
  -- what stays in each stream
  pub left : ℕ → ℕ → List Frame
  pub before : (to sender : ℕ) → frames_to w to sender ≡ taken p takes to sender ++ left to sender
  pub after : (to sender : ℕ) → frames_to w' to sender ≡ left to sender ++ sent p sends to sender

-- ---- what a map of lists makes of it

pub record IsListMap {A : Type 0} (f : List Frame → List A) : Type 0 where
  pub of_none : f [] ≡ []
  pub of_both : (xs ys : List Frame) → f (xs ++ ys) ≡ f xs ++ f ys

-- filters, and maps to lists, go over streams piece by piece
pub filter-is-list-map : (test : Frame → Bool) → IsListMap (λ fs. filter test fs)
filter-is-list-map test = record { of_none = refl; of_both = λ xs ys. filter-append test xs ys }

-- so does a map to lists
pub flat_map-is-list-map : {A : Type 0} (g : Frame → List A) → IsListMap (λ fs. flat_map g fs)
flat_map-is-list-map g = record { of_none = refl; of_both = λ xs ys. flat_map-append g xs ys }

-- nothing is made of any of these frames, where they are taken
abbrev pub MakesNothing : {A : Type 0} → (ℕ → List Frame → List A) → List (ℕ × Frame) → Type 0
MakesNothing f pairs = AllByRecursion (λ s. f s.0 (s.1 ∷ []) ≡ []) pairs

of-pairs : {A : Type 0} (f : ℕ → List Frame → List A) → ((x : ℕ) → IsListMap (f x)) → (pairs : List (ℕ × Frame))
    → MakesNothing f pairs → (x : ℕ) → f x (frames_with x pairs) ≡ []
of-pairs f m [] none x =
    let g : IsListMap (f x) = m x
    in g.of_none
of-pairs f m (s ∷ pairs) none x =
    let g : IsListMap (f x) = m x
    in elim (cases_eq x s.0) [
      | inl e ↦
          ap (λ b. f x (frame_if b s.1 ++ frames_with x pairs)) (eq-eqb x s.0 e)
          ∙ g.of_both (s.1 ∷ []) (frames_with x pairs)
          ∙ ap (λ fs. fs ++ f x (frames_with x pairs)) (subst (λ y. f y (s.1 ∷ []) ≡ []) (sym e) none.0)
          ∙ of-pairs f m pairs none.1 x
      | inr d ↦
          ap (λ b. f x (frame_if b s.1 ++ frames_with x pairs)) (ne_eqb x s.0 d)
          ∙ of-pairs f m pairs none.1 x
    ]

-- nothing is made of what a node took, or sent
pub nothing-taken : {A : Type 0} (f : ℕ → ℕ → List Frame → List A)
    → ((to sender : ℕ) → IsListMap (f to sender)) → (p : ℕ) (takes : List (ℕ × Frame))
    → MakesNothing (f p) takes → (to sender : ℕ) → f to sender (taken p takes to sender) ≡ []
nothing-taken f m p takes none to sender =
    let g : IsListMap (f to sender) = m to sender
    in elim (cases_eq to p) [
      | inl e ↦
          ap (λ b. f to sender (frames_if b (frames_with sender takes))) (eq-eqb to p e)
          ∙ subst (λ t. f t sender (frames_with sender takes) ≡ []) (sym e)
          (of-pairs (f p) (λ x. m p x) takes none sender)
      | inr d ↦ ap (λ b. f to sender (frames_if b (frames_with sender takes))) (ne_eqb to p d) ∙ g.of_none
    ]

-- nothing is made of what was sent
pub nothing-sent : {A : Type 0} (f : ℕ → ℕ → List Frame → List A)
    → ((to sender : ℕ) → IsListMap (f to sender)) → (p : ℕ) (sends : List (ℕ × Frame))
    → MakesNothing (λ to. f to p) sends → (to sender : ℕ) → f to sender (sent p sends to sender) ≡ []
nothing-sent f m p sends none to sender =
    let g : IsListMap (f to sender) = m to sender
    in elim (cases_eq sender p) [
      | inl e ↦
          ap (λ b. f to sender (frames_if b (frames_with to sends))) (eq-eqb sender p e)
          ∙ subst (λ s. f to s (frames_with to sends) ≡ []) (sym e)
          (of-pairs (λ x. f x p) (λ x. m x p) sends none to)
      | inr d ↦ ap (λ b. f to sender (frames_if b (frames_with to sends))) (ne_eqb sender p d) ∙ g.of_none
    ]

module _ (script : Script) (p : ℕ) (w w' : World) (n : Node) (takes sends : List (ℕ × Frame)) (entries : List Entry)
    (c : Changes script p w w' n takes sends entries) where
  -- before it is what was taken, and then what stayed; afterwards what stayed, and then what was sent
  pub made-before : {A : Type 0} (f : ℕ → ℕ → List Frame → List A) → ((to sender : ℕ) → IsListMap (f to sender))
      → (to sender : ℕ)
      → f to sender (frames_to w to sender)
      ≡ f to sender (taken p takes to sender) ++ f to sender (c.left to sender)
  made-before f m to sender =
      let g : IsListMap (f to sender) = m to sender
      in ap (f to sender) (c.before to sender) ∙ g.of_both (taken p takes to sender) (c.left to sender)

  -- afterwards it is what stayed, and then what was sent
  pub made-after : {A : Type 0} (f : ℕ → ℕ → List Frame → List A) → ((to sender : ℕ) → IsListMap (f to sender))
      → (to sender : ℕ)
      → f to sender (frames_to w' to sender)
      ≡ f to sender (c.left to sender) ++ f to sender (sent p sends to sender)
  made-after f m to sender =
      let g : IsListMap (f to sender) = m to sender
      in ap (f to sender) (c.after to sender) ∙ g.of_both (c.left to sender) (sent p sends to sender)

  -- where nothing is made of what was taken, all that was there has stayed
  pub stayed : {A : Type 0} (f : ℕ → ℕ → List Frame → List A) → ((to sender : ℕ) → IsListMap (f to sender))
      → MakesNothing (f p) takes → (to sender : ℕ)
      → f to sender (c.left to sender) ≡ f to sender (frames_to w to sender)
  stayed f m none to sender =
      sym (made-before f m to sender
      ∙ ap (λ fs. fs ++ f to sender (c.left to sender)) (nothing-taken f m p takes none to sender))

  -- where nothing is made of what was sent, all that is there has stayed
  pub only-stayed : {A : Type 0} (f : ℕ → ℕ → List Frame → List A) → ((to sender : ℕ) → IsListMap (f to sender))
      → MakesNothing (λ to. f to p) sends → (to sender : ℕ)
      → f to sender (frames_to w' to sender) ≡ f to sender (c.left to sender)
  only-stayed f m none to sender =
      made-after f m to sender
      ∙ ap (λ fs. f to sender (c.left to sender) ++ fs) (nothing-sent f m p sends none to sender)
      ∙ append-nil (f to sender (c.left to sender))

  -- and where nothing is made of either, it is as it was
  pub made-same : {A : Type 0} (f : ℕ → ℕ → List Frame → List A) → ((to sender : ℕ) → IsListMap (f to sender))
      → MakesNothing (f p) takes → MakesNothing (λ to. f to p) sends → (to sender : ℕ)
      → f to sender (frames_to w' to sender) ≡ f to sender (frames_to w to sender)
  made-same f m none_taken none_sent to sender =
      only-stayed f m none_sent to sender ∙ stayed f m none_taken to sender

  -- ---- nodes

  -- what is read off a node is the same at each node where it is at this one
  pub read-same : {A : Type 0} (f : Node → A) → f n ≡ f (node_of w p) → (x : ℕ) → f (node_of w' x) ≡ f (node_of w x)
  read-same f same x =
      elim (cases_eq x p) [
        | inl e ↦
            subst (λ y. f (node_of w' y) ≡ f (node_of w y)) (sym e) (ap f c.here ∙ same)
        | inr d ↦ ap f (c.others x d)
      ]

  -- no node is unborn again
  pub still-born : (is_born_stage (stage_of w p) ≡ true → is_born_stage n.stage ≡ true) → (x : ℕ)
      → is_born_in w x ≡ true → is_born_in w' x ≡ true
  still-born more x born =
      elim (cases_eq x p) [
        | inl e ↦
            subst (λ y. is_born_in w y ≡ true → is_born_in w' y ≡ true) (sym e)
            (λ h. ap (λ (m : Node). is_born_stage m.stage) c.here ∙ more h) born
        | inr d ↦ ap (λ (m : Node). is_born_stage m.stage) (c.others x d) ∙ born
      ]

  -- the directory is node 1's
  pub directory-same : p ≢ 1 → directory_of w' ≡ directory_of w
  directory-same d = ap (λ (m : Node). m.leader.directory) (c.others 1 (λ e. d (sym e)))
