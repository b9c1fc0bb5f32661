-- What one effect on two kernels leaves at each number: the value stays in both, or it is the same in both.
use Rattle.std.proofs.Common.{◌≡◌, ℕ, Bool, true, false, List, Option, Some, None, refl, sym, subst, ◌∙◌, inl, inr}
use Rattle.std.specs.List.{list_any}
use Rattle.std.proofs.lemmas.Bool.{cases_eq, false≢true}
use Rattle.number_maps.specs.Maps.{Numbered, get, put, without}
use Rattle.kernel_model.specs.Kernel.{Kernel, parent_in}
use Rattle.kernel_model.specs.Effect.{Effect}
use Rattle.kernel_model.specs.Footprint.{Part, ParentOf}
use Rattle.kernel_model.specs.FootprintLaw.{is_whole, is_queue, is_set, is_queue_keys, is_set_keys}
use Rattle.number_maps.proofs.LookUps.{get-put-same, get-put-other, get-without-same, get-without-other}
use Rattle.std.specs.Prelude.{nat_eq}

pub data Change {X : Type 0} (touched : Bool) (j k to_j to_k : X) : Type 0 where
  Stays : to_j ≡ j → to_k ≡ k → Change touched j k to_j to_k
  Same : touched ≡ true → to_j ≡ to_k → Change touched j k to_j to_k

-- at each number: touched in both alike, or as it was in each
abbrev pub Changes : {V : Type 0} → (ℕ → Bool) → Numbered V → Numbered V → Numbered V → Numbered V → Type 0
Changes touched j k to_j to_k = (p : ℕ) → Change (touched p) (get j p) (get k p) (get to_j p) (get to_k p)

-- the same values in other words
pub change-move : {X : Type 0} (t : Bool) (j k a b c d : X) → Change t j k a b → c ≡ a → d ≡ b → Change t j k c d
change-move t j k a b c d (Stays x y) p q = Stays (p ∙ x) (q ∙ y)
change-move t j k a b c d (Same h x) p q = Same h (p ∙ x ∙ sym q)

-- what agreed before agrees afterwards
pub change-agree : {X : Type 0} (t : Bool) (j k a b : X) → Change t j k a b → j ≡ k → a ≡ b
change-agree t j k a b (Stays x y) h = x ∙ h ∙ sym y
change-agree t j k a b (Same s x) h = x

-- what isn't touched is as it was in the first kernel
pub change-first : {X : Type 0} (t : Bool) (j k a b : X) → Change t j k a b → t ≡ false → a ≡ j
change-first t j k a b (Stays x y) h = x
change-first t j k a b (Same s x) h = absurd (false≢true (sym h ∙ s))

-- and in the second
pub change-second : {X : Type 0} (t : Bool) (j k a b : X) → Change t j k a b → t ≡ false → b ≡ k
change-second t j k a b (Stays x y) h = y
change-second t j k a b (Same s x) h = absurd (false≢true (sym h ∙ s))

-- no change
pub changes-none : {V : Type 0} (touched : ℕ → Bool) (j k : Numbered V) → Changes touched j k j k
changes-none touched j k = λ p. Stays refl refl

-- the same value at a touched number
pub changes-put : {V : Type 0} (touched : ℕ → Bool) (j k a b : Numbered V) (n : ℕ) (v : V) → touched n ≡ true
    → Changes touched j k a b → Changes touched j k (put a n v) (put b n v)
changes-put touched j k a b n v t c = λ p.
    elim (cases_eq p n) [
      | inl h ↦
          let P : ℕ → Type 0 = λ q. Change (touched q) (get j q) (get k q) (get (put a n v) q) (get (put b n v) q)
          in subst P (sym h) (Same t (get-put-same a n v ∙ sym (get-put-same b n v)))
      | inr h ↦ change-move (touched p) (get j p) (get k p) (get a p) (get b p) _ _ (c p) (get-put-other a n v p h)
          (get-put-other b n v p h)
    ]

-- nothing at a touched number
pub changes-without : {V : Type 0} (touched : ℕ → Bool) (j k a b : Numbered V) (n : ℕ) → touched n ≡ true
    → Changes touched j k a b → Changes touched j k (without a n) (without b n)
changes-without touched j k a b n t c = λ p.
    elim (cases_eq p n) [
      | inl h ↦
          let P : ℕ → Type 0 = λ q. Change (touched q) (get j q) (get k q) (get (without a n) q) (get (without b n) q)
          in subst P (sym h) (Same t (get-without-same a n ∙ sym (get-without-same b n)))
      | inr h ↦ change-move (touched p) (get j p) (get k p) (get a p) (get b p) _ _ (c p) (get-without-other a n p h)
          (get-without-other b n p h)
    ]

-- the part says who is the process's parent
abbrev pub is_parent : ℕ → Part → Bool
is_parent pid (ParentOf p) = nat_eq pid p
is_parent pid part = false

-- the parts have the process whole
abbrev pub has_whole : List Part → ℕ → Bool
has_whole parts p = list_any (is_whole p) parts

-- the parts have the queue
abbrev pub has_queue : List Part → ℕ → Bool
has_queue parts p = list_any (is_queue p) parts

-- the parts have the set
abbrev pub has_set : List Part → ℕ → Bool
has_set parts p = list_any (is_set p) parts

-- the parts have what the queue's key is bound to
abbrev pub has_queue_keys : List Part → ℕ → Bool
has_queue_keys parts p = list_any is_queue_keys parts

-- the parts have what the set's key is bound to
abbrev pub has_set_keys : List Part → ℕ → Bool
has_set_keys parts p = list_any is_set_keys parts

-- the parts say who the process's parent is
abbrev pub has_parent : List Part → ℕ → Bool
has_parent parts p = list_any (is_parent p) parts

-- nobody is the parent of the process
abbrev pub IsOrphan : Kernel → ℕ → Type 0
IsOrphan k p = parent_in p k.processes ≡ None

-- The same effect on two kernels.
pub record SameEffect (parts : List Part) (j k : Kernel) (e f : Effect) : Type 0 where
  pub reply : e.reply ≡ f.reply
  pub processes : Changes (has_whole parts) j.processes k.processes e.kernel.processes f.kernel.processes
  pub queues : Changes (has_queue parts) j.queues k.queues e.kernel.queues f.kernel.queues
  pub sets : Changes (has_set parts) j.sets k.sets e.kernel.sets f.kernel.sets
  pub queue_keys : Changes (has_queue_keys parts) j.queue_keys k.queue_keys e.kernel.queue_keys f.kernel.queue_keys
  pub set_keys : Changes (has_set_keys parts) j.set_keys k.set_keys e.kernel.set_keys f.kernel.set_keys
  pub parents : (p : ℕ) → has_parent parts p ≡ true → IsOrphan e.kernel p × IsOrphan f.kernel p

-- no effect in both kernels, or effects with one reply that change these parts alike
abbrev pub SameEffects : List Part → Kernel → Kernel → Option Effect → Option Effect → Type 0
SameEffects parts j k None None = Unit {0}
SameEffects parts j k (Some e) (Some f) = SameEffect parts j k e f
SameEffects parts j k _ _ = ⊥
