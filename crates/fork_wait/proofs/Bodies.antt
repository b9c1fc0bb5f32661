-- A family that is read is the family that was written, and what was written is read again.
use Rattle.std.proofs.Common.{◌≡◌, ℕ, ◌^◌, ◌<◌, ◌≤◌, Bool, true, false, cond, eqb, List, [], ◌∷◌, ◌++◌, length, map, find, Option, Some, None, refl, sym, ap, subst, ◌∙◌, arith}
use Rattle.std.specs.Int.{w32, to_be_bytes}
use Rattle.std.specs.List.{flat_map, AllByRecursion}
use Rattle.std.specs.Option.{option_map}
use Rattle.std.proofs.lemmas.Bool.Decides.{nat_tests}
use Rattle.std.proofs.lemmas.List.{length-append, length-map}
use Rattle.std.proofs.lemmas.List.Elements.{All-from_recursion, recursion_from_All}
use Rattle.pico_base.specs.declared.reply.Ending.{Ending}
use Rattle.pico_base.specs.declared.reply.Ending.TheVariants.{Exited, Killed}
use Rattle.pico_base.specs.declared.signal.Sig.{Sig}
use Rattle.pico_base.specs.declared.signal.Sig.TheVariants.{Hup, Int, Quit, Kill, Usr1, Usr2, Pipe, Alrm, Term, Chld}
use Rattle.body_fields.specs.Fields.{byte_at, byte_upto, number_at, whole}
use Rattle.body_fields.proofs.Fields.{IsBytes, bind_some, some_is, refused, Takes, Takes-then, wide32, byte_takes, byte_upto_takes, byte_upto_again, number_takes, number_again}
use Rattle.body_fields.proofs.Many.{all_again, all_taken, many_again, many_takes}
use Rattle.kernel_model.specs.Row.{Family, EndedChild, ended_child}
use Rattle.pico_base.specs.Options.{◌>>=◌}
use Rattle.pico_base.specs.Signal.{all_signals, signal_from, signal_number}
use Rattle.fork_wait.specs.Children.{AreChildren, children}
use Rattle.fork_wait.specs.Reading.{all_ended_at, ended_at, ending_from, family_at, max_children, numbers_at}
use Rattle.fork_wait.specs.Spelling.{HasBytes, ended_bytes, ending_bytes, family_bytes}

-- ---- a number and an ending

find-passes : (p : Sig → Bool) (gs : List Sig) (g : Sig) → find p gs ≡ Some g → p g ≡ true
find-passes p [] g e = absurd cc
find-passes p (x ∷ gs) g e =
    elim (p x) as (λ (t : Bool). p x ≡ t → cond t (Some x) (find p gs) ≡ Some g → p g ≡ true) [
      | true ↦ λ passes here. ap p (sym (some_is x g here)) ∙ passes
      | false ↦ λ _ later. find-passes p gs g later
    ] refl e

pub is_number : (n k : ℕ) → eqb n k ≡ true → n ≡ k
is_number n k e = grind (arith, nat_tests)

killed_takes : (value : ℕ) (found : Option Sig) (ending : Ending) → signal_from value ≡ found
    → option_map Killed found ≡ Some ending → 1 ∷ value ∷ [] ≡ ending_bytes ending
killed_takes value None ending is e = absurd cc
killed_takes value (Some g) ending is e =
    ap (λ (v : ℕ). 1 ∷ v ∷ [])
    (sym (is_number (signal_number g) value (find-passes (λ g. eqb (signal_number g) value) all_signals g is)))
    ∙ ap ending_bytes (some_is (Killed g) ending e)

ending_takes : (kind value : ℕ) (ending : Ending) → ending_from kind value ≡ Some ending
    → kind ∷ value ∷ [] ≡ ending_bytes ending
ending_takes kind value ending e =
    elim (eqb kind 0) as (λ (t : Bool). eqb kind 0 ≡ t
    → cond t (Some (Exited value)) (cond (eqb kind 1) (option_map Killed (signal_from value)) None) ≡ Some ending
    → kind ∷ value ∷ [] ≡ ending_bytes ending) [
      | true ↦ λ zero_is exited. ap (λ (k : ℕ). k ∷ value ∷ []) (is_number kind 0 zero_is)
          ∙ ap ending_bytes (some_is (Exited value) ending exited)
      | false ↦ λ _ other. elim (eqb kind 1) as (λ (t : Bool). eqb kind 1 ≡ t
          → cond t (option_map Killed (signal_from value)) None ≡ Some ending
          → kind ∷ value ∷ [] ≡ ending_bytes ending) [
            | true ↦ λ one_is killed. ap (λ (k : ℕ). k ∷ value ∷ []) (is_number kind 1 one_is)
                ∙ killed_takes value (signal_from value) ending refl killed
            | false ↦ λ _ none. absurd cc
          ] refl other
    ] refl e

ended_takes : (bytes : List ℕ) (child : EndedChild × List ℕ) → IsBytes bytes → ended_at bytes ≡ Some child
    → Takes bytes (ended_bytes child.0) child.1 × (child.0.pid < 2 ^ 32)
unfolding ended_at
ended_takes bytes child fits e =
    let pid = bind_some (number_at w32 bytes) _ child e in
    let kind = bind_some (byte_at pid.0.1) _ child pid.2 in
    let value = bind_some (byte_at kind.0.1) _ child kind.2 in
    let ending = bind_some (ending_from kind.0.0 value.0.0) _ child value.2 in
    let number = number_takes w32 (2 ^ 32) wide32 bytes pid.0 fits pid.1 in
    let first = byte_takes pid.0.1 kind.0 number.0.rest_fits kind.1 in
    let second = byte_takes kind.0.1 value.0 first.rest_fits value.1 in
    let two = Takes-then pid.0.1 (kind.0.0 ∷ []) kind.0.1 (value.0.0 ∷ []) value.0.1 first second in
    let whole = Takes-then bytes (to_be_bytes w32 pid.0.0) pid.0.1 (kind.0.0 ∷ value.0.0 ∷ []) value.0.1 number.0 two in
    let spelled : Takes bytes (ended_bytes (ended_child pid.0.0 ending.0)) value.0.1 =
    subst (λ (t : List ℕ). Takes bytes (to_be_bytes w32 pid.0.0 ++ t) value.0.1)
    (ending_takes kind.0.0 value.0.0 ending.0 ending.1) whole in
    subst (λ (p : EndedChild × List ℕ). Takes bytes (ended_bytes p.0) p.1 × (p.0.pid < 2 ^ 32))
    (some_is (ended_child pid.0.0 ending.0, value.0.1) child ending.2) (spelled, number.1)

behind_number : Option (ℕ × List ℕ) → Option (EndedChild × List ℕ)
behind_number r = r >>= λ pid. byte_at pid.1 >>= λ kind. byte_at kind.1 >>= λ value.
    ending_from kind.0 value.0 >>= λ ending. Some (ended_child pid.0 ending, value.1)

ending_again : (number : ℕ) (ending : Ending) (rest : List ℕ)
    → behind_number (Some (number, ending_bytes ending ++ rest)) ≡ Some (ended_child number ending, rest)
unfolding behind_number
ending_again number (Exited status) rest = refl
ending_again number (Killed Hup) rest = refl
ending_again number (Killed Int) rest = refl
ending_again number (Killed Quit) rest = refl
ending_again number (Killed Kill) rest = refl
ending_again number (Killed Usr1) rest = refl
ending_again number (Killed Usr2) rest = refl
ending_again number (Killed Pipe) rest = refl
ending_again number (Killed Alrm) rest = refl
ending_again number (Killed Term) rest = refl
ending_again number (Killed Chld) rest = refl

child_again : (child : EndedChild) (rest : List ℕ) → child.pid < 2 ^ 32
    → ended_at (ended_bytes child ++ rest) ≡ Some (child, rest)
unfolding ended_at behind_number
child_again child rest small =
    ap behind_number (number_again w32 (2 ^ 32) wide32 child.pid (ending_bytes child.ending ++ rest) small)
    ∙ ending_again child.pid child.ending rest

-- ---- the whole family

-- it is a u32
abbrev pub Small : ℕ → Type 0
Small n = n < 2 ^ 32

pub Small-split : (xs : List ℕ) (es : List (EndedChild)) → AllByRecursion Small (xs ++ map (λ e. e.pid) es)
    → AllByRecursion Small xs × AllByRecursion (λ (e : EndedChild). Small e.pid) es
Small-split [] [] h = (tt, tt)
Small-split [] (e ∷ es) h = (tt, (h.0, (Small-split [] es h.1).1))
Small-split (x ∷ xs) es h =
    let more = Small-split xs es h.1 in
    ((h.0, more.0), more.1)

-- so are those of two lists together
pub Small-join : (xs : List ℕ) (es : List (EndedChild)) → AllByRecursion Small xs
    → AllByRecursion (λ (e : EndedChild). Small e.pid) es → AllByRecursion Small (xs ++ map (λ e. e.pid) es)
Small-join [] [] p q = tt
Small-join [] (e ∷ es) p q = (q.0, Small-join [] es tt q.1)
Small-join (x ∷ xs) es p q = (p.0, Small-join xs es p.1 q)

family_parts : (bytes living_rest numbers_rest ended_rest : List ℕ) (f : Family) (count more : ℕ)
    → Takes bytes (count ∷ []) living_rest → Takes living_rest (flat_map (to_be_bytes w32) f.living) numbers_rest
    → Takes numbers_rest (more ∷ []) ended_rest → ended_rest ≡ flat_map ended_bytes f.ended
    → length f.living ≡ count → length f.ended ≡ more → bytes ≡ family_bytes f
unfolding family_bytes
family_parts bytes living_rest numbers_rest ended_rest f count more t1 t2 t3 all is_count is_more =
    t1.parts
    ∙ ap (λ (r : List ℕ). count ∷ r)
    (t2.parts ∙ ap (λ (r : List ℕ). flat_map (to_be_bytes w32) f.living ++ r)
    (t3.parts ∙ ap (λ (r : List ℕ). more ∷ r) all))
    ∙ ap (λ (k : ℕ). k ∷ flat_map (to_be_bytes w32) f.living ++ more ∷ flat_map ended_bytes f.ended) (sym is_count)
    ∙ ap (λ (k : ℕ). length f.living ∷ flat_map (to_be_bytes w32) f.living ++ k ∷ flat_map ended_bytes f.ended)
    (sym is_more)

pub family_takes : (bytes : List ℕ) (f : Family) → IsBytes bytes → family_at bytes ≡ Some f → (bytes ≡ family_bytes f)
    × AllByRecursion Small (children f)
unfolding family_at numbers_at all_ended_at
family_takes bytes f fits e =
    let count = bind_some (byte_upto max_children bytes) _ f e in
    let numbers = bind_some (numbers_at count.0.0 count.0.1) _ f count.2 in
    let more = bind_some (byte_upto max_children numbers.0.1) _ f numbers.2 in
    let endings = bind_some (whole (all_ended_at more.0.0 more.0.1)) _ f more.2 in
    let t1 = (byte_upto_takes max_children bytes count.0 fits count.1).0 in
    let t2 = many_takes (number_at w32) (to_be_bytes w32) Small
    (number_takes w32 (2 ^ 32) wide32) count.0.0 count.0.1 numbers.0 t1.rest_fits numbers.1 in
    let t3 = (byte_upto_takes max_children numbers.0.1 more.0 t2.0.rest_fits more.1).0 in
    let t4 = all_taken ended_at ended_bytes
    (λ (c : EndedChild). Small c.pid) ended_takes more.0.0 more.0.1 endings.0 t3.rest_fits endings.1 in
    subst (λ (f : Family). (bytes ≡ family_bytes f) × AllByRecursion Small (children f))
    (some_is (record { living = numbers.0.0; ended = endings.0 }) f endings.2) (
      family_parts bytes count.0.1 numbers.0.1 more.0.1
          (record { living = numbers.0.0; ended = endings.0 }) count.0.0 more.0.0 t1 t2.0 t3 t4.0 t2.1 t4.1,
      Small-join numbers.0.0 endings.0 t2.2 t4.2,
    )

pub family_again : (f : Family) → length f.living ≤ max_children → length f.ended ≤ max_children
    → AllByRecursion Small (children f) → family_at (family_bytes f) ≡ Some f
unfolding family_at numbers_at all_ended_at family_bytes
family_again f few few' small =
    let parts = Small-split f.living f.ended small in
    let count = byte_upto_again max_children (length f.living)
    (flat_map (to_be_bytes w32) f.living ++ length f.ended ∷ flat_map ended_bytes f.ended) few in
    let numbers = many_again (number_at w32) (to_be_bytes w32) Small (number_again w32 (2 ^ 32) wide32) f.living
    (length f.ended ∷ flat_map ended_bytes f.ended) parts.0 in
    let more = byte_upto_again max_children (length f.ended) (flat_map ended_bytes f.ended) few' in
    let endings = all_again ended_at ended_bytes (λ (c : EndedChild). Small c.pid) child_again f.ended parts.1 in
    rw (count, numbers, more, endings) refl

-- ---- what the bytes of a family say

few-children : (f : Family) → AreChildren (children f)
    → (length f.living ≤ max_children) × (length f.ended ≤ max_children)
few-children f are =
    let together = length-append f.living (map (λ e. e.pid) f.ended) in
    let mapped : length (map (λ e. e.pid) f.ended) ≡ length f.ended = length-map f.ended (λ e. e.pid) in
    let few = are.few in
    (omega arith, omega arith)

-- the bytes of a family are read as that family
pub bytes_again : (bytes : List ℕ) (f : Family) → bytes ≡ family_bytes f → HasBytes f → family_at bytes ≡ Some f
bytes_again bytes f spelled has =
    let few = few-children f has.sound in
    ap family_at spelled ∙ family_again f few.0 few.1 (recursion_from_All Small (children f) has.numbers)

-- what is read as a family is what its bytes spell
pub are-found : (bytes : List ℕ) (f : Family) → IsBytes bytes → family_at bytes ≡ Some f → AreChildren (children f)
    → (bytes ≡ family_bytes f) × HasBytes f
are-found bytes f fits e sound =
    let read = family_takes bytes f fits e in
    (read.0, record { sound = sound; numbers = All-from_recursion Small _ read.1 })

-- what is read as no family, or as no children, is none's
pub unread : (bytes : List ℕ) → family_at bytes ≡ None → (f : Family) → bytes ≡ family_bytes f → HasBytes f → ⊥
unread bytes e f spelled has = refused (family_at bytes) f e (bytes_again bytes f spelled has)

-- bytes with a number twice spell no family
pub unsound : (bytes : List ℕ) (read : Family) → family_at bytes ≡ Some read → (AreChildren (children read) → ⊥)
    → (f : Family) → bytes ≡ family_bytes f → HasBytes f → ⊥
unsound bytes read e not f spelled has =
    let same : f ≡ read = some_is f read (sym (bytes_again bytes f spelled has) ∙ e) in
    not (subst (λ (f : Family). AreChildren (children f)) same has.sound)

-- bytes are those of one family at most
pub one-family : (bytes : List ℕ) (f g : Family) → bytes ≡ family_bytes f → HasBytes f → bytes ≡ family_bytes g
    → HasBytes g → f ≡ g
one-family bytes f g spelled has spelled' has' =
    some_is f g (sym (bytes_again bytes f spelled has) ∙ bytes_again bytes g spelled' has')
