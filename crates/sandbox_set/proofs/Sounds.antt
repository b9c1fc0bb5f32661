-- Sandboxes stay sound with one more.
use Rattle.std.proofs.Common.{◌≡◌, ℕ, ◌+◌, ◌≤◌, Bool, true, false, not, ◌&&◌, ◌||◌, cond, List, [], ◌∷◌, ◌++◌, length, Some, None, codes, bytes_eq, sum_by, refl, sym, subst, ◌∙◌, arith}
use Rattle.std.specs.List.{list_all}
use Rattle.std.proofs.lemmas.Bool.{and_parts, and_from, or_parts, false_from_ne_true, not-true}
use Rattle.std.proofs.lemmas.List.{length-append}
use Rattle.std.proofs.lemmas.List.Elements.{All-nil, All-push}
use Rattle.std.proofs.lemmas.List.Folds.{list_all-append, list_any-append}
use Rattle.std.proofs.lemmas.List.Sums.{sum_by-append}
use Rattle.std.proofs.lemmas.Option.{same_Some, none-some}
use Rattle.std.proofs.lemmas.Slice.Eq.{bytes_eq-Decides}
use Rattle.pico_base.specs.declared.script.Script.{Script}
use Rattle.kernel_model.specs.Script.{IsSoundScript, is_name}
use Rattle.script_reader.specs.Words.{words_of}
use Rattle.sandbox_set.specs.declared.read.Sandbox.{Sandbox as Box}
use Rattle.sandbox_set.specs.Boxes.{name_in, name_by, has_name}
use Rattle.sandbox_set.specs.Sound.{AreSound, IsFresh, names_differ}
use Rattle.sandbox_set.proofs.Headings.{named_box}

-- ---- names

named_by : (words : List (List ℕ)) (name : List ℕ) → name_by words ≡ Some name → is_name name ≡ true
named_by [] name e = absurd (none-some name e)
named_by (s ∷ []) name e = absurd (none-some name e)
named_by (s ∷ n ∷ []) name e = name_step (bytes_eq s (codes "sandbox") && is_name n) refl e
  where
    name_step : (b : Bool) → (bytes_eq s (codes "sandbox") && is_name n) ≡ b → cond b (Some n) None ≡ Some name
        → is_name name ≡ true
    name_step true b e =
        subst (λ x. is_name x ≡ true) (same_Some n name e) (and_parts (bytes_eq s (codes "sandbox")) (is_name n) b).1
    name_step false b e = absurd (none-some name e)
named_by (s ∷ n ∷ m ∷ words) name e = absurd (none-some name e)

-- the name in a line can be a name
pub name_is : (line name : List ℕ) → name_in line ≡ Some name → is_name name ≡ true
unfolding name_in
name_is line name e = named_by (words_of line) name e

other_way : (x y : List ℕ) → bytes_eq x y ≡ false → bytes_eq y x ≡ false
other_way x y e =
    false_from_ne_true (bytes_eq y x)
    (λ t. let same : y ≡ x = (bytes_eq-Decides y x).0 t in
    let both : true ≡ false = sym ((bytes_eq-Decides x y).1 (sym same)) ∙ e in
    absurd cc)

differ_more : (boxes : List Box) (b : Box) → names_differ boxes ≡ true → has_name b.name boxes ≡ false
    → names_differ (boxes ++ b ∷ []) ≡ true
differ_more [] b d h = refl
differ_more (first ∷ boxes) b d h =
    let here = or_parts (bytes_eq first.name b.name) (has_name b.name boxes) h in
    let parts = and_parts (not (has_name first.name boxes)) (names_differ boxes) d in
    let last : bytes_eq b.name first.name ≡ false = other_way first.name b.name here.0 in
    let none : has_name first.name (boxes ++ b ∷ [])
    ≡ (has_name first.name boxes || (bytes_eq b.name first.name || false)) =
    list_any-append (λ (o : Box). bytes_eq o.name first.name) boxes (b ∷ []) in
    rw (none, last, not-true (has_name first.name boxes) parts.0, differ_more boxes b parts.1 here.1) refl

-- ---- sandboxes

-- before the first
pub sound_none : AreSound 0 []
sound_none =
    record {
      few = omega arith;
      names = refl;
      names_apart = refl;
      scripts = All-nil (λ (b : Box). IsSoundScript b.script);
      nodes = omega arith;
    }

-- with one more
pub sound_more : (nodes n : ℕ) (boxes : List Box) (name : List ℕ) (script : Script) → AreSound nodes boxes
    → IsFresh name boxes → IsSoundScript script → nodes + length script.blocks ≤ n
    → AreSound n (boxes ++ named_box name script ∷ [])
sound_more nodes n boxes name script h fresh sound room =
    let b : Box = named_box name script in
    let size : Box → ℕ = λ (b : Box). length b.script.blocks in
    let one : sum_by size (b ∷ []) ≡ length script.blocks = omega arith in
    record {
      few = omega (arith, fresh.room, length-append boxes (b ∷ []));
      names =
          list_all-append (λ (o : Box). is_name o.name) boxes (b ∷ [])
          ∙ and_from (list_all (λ (o : Box). is_name o.name) boxes) (is_name name && true) h.names
          (and_from (is_name name) true fresh.named refl);
      names_apart = differ_more boxes b h.names_apart fresh.new;
      scripts = All-push (λ (o : Box). IsSoundScript o.script) boxes b h.scripts sound;
      nodes = omega (arith, room, h.nodes, one, sum_by-append size boxes (b ∷ []));
    }

-- with at most 32 blocks
pub sound_at_most : (nodes : ℕ) (boxes : List Box) → AreSound nodes boxes → nodes ≤ 32 → AreSound 32 boxes
sound_at_most nodes boxes h few =
    record {
      few = h.few;
      names = h.names;
      names_apart = h.names_apart;
      scripts = h.scripts;
      nodes = omega (arith, h.nodes, few);
    }
