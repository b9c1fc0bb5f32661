-- The names of the blocks that are read are the names of the text.
use Rattle.std.proofs.Common.{◌≡◌, ℕ, ◌+◌, ◌<◌, ◌≤◌, Bool, true, false, ◌&&◌, ◌||◌, not, cond, eqb, List, [], ◌∷◌, ◌++◌, map, length, Option, Some, None, refl, sym, ap, subst, ◌∙◌, arith}
use Rattle.std.specs.Prelude.{bytes_eq}
use Rattle.std.specs.List.{list_any}
use Rattle.std.proofs.lemmas.Bool.{eqb-true, ltb-false}
use Rattle.std.proofs.lemmas.List.{length-append, map_push, append-nil, length-map}
use Rattle.std.proofs.lemmas.Option.{same_Some}
use Rattle.std.proofs.lemmas.Slice.Eq.{bytes_eq-Decides}
use Rattle.pico_base.specs.declared.script.Block.{Block}
use Rattle.pico_base.specs.declared.script.Line.{Line}
use Rattle.script_reader.specs.declared.place.Place.{Place}
use Rattle.script_reader.specs.declared.says.Said.{Said}
use Rattle.script_reader.specs.declared.says.Said.TheVariants.{Skipped, Opens, BadProc, Ends, Unknown, Bad, Forks, Calls}
use Rattle.script_reader.specs.Says.{with_name, with_opening, number_of, proc_from}
use Rattle.script_reader.specs.Fault as spec
use Rattle.script_reader.proofs.Saying.{IsFine}
use Rattle.script_reader.proofs.Steps.{IsFaultless}

-- ---- tests that fail

-- an `or` that fails, fails at both
pub neither : (a b : Bool) → (a || b) ≡ false → (a ≡ false) × (b ≡ false)
neither false b e = (refl, e)
neither true b e = absurd cc

-- an `and` that fails, fails at the first where the second passes
pub not_both : (a b : Bool) → (a && b) ≡ false → b ≡ true → a ≡ false
not_both false b e t = refl
not_both true b e t = absurd cc

-- what is not false is true
pub not_false : (a : Bool) → not a ≡ false → a ≡ true
not_false true e = refl
not_false false e = absurd cc

-- ---- names and their numbers

-- the names of blocks
abbrev pub block_names : List Block → List (List ℕ)
block_names blocks = map (λ (b : Block). b.name) blocks

abbrev pub open_names : Bool → List ℕ → List (List ℕ)
open_names inside name = cond inside (name ∷ []) []

-- names whose numbers rise from this one
abbrev pub AreNumbered : List (List ℕ) → ℕ → List (List ℕ) → Type 0
AreNumbered names k [] = Unit {0}
AreNumbered names k (x ∷ xs) = (number_of names x ≡ Some k) × AreNumbered names (k + 1) xs

numbered-push : (names : List (List ℕ)) (k n : ℕ) (xs : List (List ℕ)) (x : List ℕ) → AreNumbered names k xs
    → k + length xs ≡ n → number_of names x ≡ Some n → AreNumbered names k (xs ++ x ∷ [])
numbered-push names k n [] x h e is = let same : n ≡ k = omega (arith, e) in (is ∙ ap Some same, tt)
numbered-push names k n (y ∷ xs) x h e is = (h.0, numbered-push names (k + 1) n xs x h.1 (omega (arith, e)) is)

not_first : (names : List (List ℕ)) (k n : ℕ) (x y : List ℕ) (b rest : Bool) → bytes_eq x y ≡ b
    → number_of names x ≡ Some n → number_of names y ≡ Some k → k < n → rest ≡ false → (b || rest) ≡ false
not_first names k n x y false rest e is at low more = more
not_first names k n x y true rest e is at low more =
    let same : x ≡ y = (bytes_eq-Decides x y).0 e in
    let number : n ≡ k = same_Some n k (sym is ∙ ap (number_of names) same ∙ at) in
    absurd (omega (arith, number, low))

-- a name of a greater number isn't among them
pub not_among : (names : List (List ℕ)) (k n : ℕ) (xs : List (List ℕ)) (x : List ℕ) → AreNumbered names k xs
    → number_of names x ≡ Some n → k + length xs ≤ n → list_any (bytes_eq x) xs ≡ false
not_among names k n [] x h is low = refl
not_among names k n (y ∷ xs) x h is low =
    not_first names k n x y (bytes_eq x y) (list_any (bytes_eq x) xs) refl is h.0 (omega (arith, low))
    (not_among names (k + 1) n xs x h.1 is (omega (arith, low)))

pub record AreOpened (names so_far : List (List ℕ)) (place : Place) : Type 0 where
  pub opened : so_far ≡ block_names place.blocks ++ open_names place.inside place.name
  pub numbered : AreNumbered names 1 so_far
  pub few : length so_far ≤ 32

-- a line that doesn't open a block leaves the names
no_opening : (names : List (List ℕ)) (o : Option (List ℕ)) (said : Said)
    → ((x : List ℕ) → o ≡ Some x → said ≡ proc_from (number_of names x) x)
    → ((number : Option ℕ) (x : List ℕ) → said ≡ proc_from number x → ⊥) → o ≡ None
no_opening names None said f g = refl
no_opening names (Some x) said f g = absurd (g (number_of names x) x (f x refl))

abbrev Differs : Said → Type 0
Differs said = (number : Option ℕ) (x : List ℕ) → said ≡ proc_from number x → ⊥

skipped_differs : Differs Skipped
skipped_differs None x e = cc
skipped_differs (Some k) x e = cc

ends_differs : Differs Ends
ends_differs None x e = cc
ends_differs (Some k) x e = cc

forks_differs : (set number : Option ℕ) → Differs (Forks set number)
forks_differs set number None x e = cc
forks_differs set number (Some k) x e = cc

calls_differs : (line : Line) → Differs (Calls line)
calls_differs line None x e = cc
calls_differs line (Some k) x e = cc

same_names : (names so_far : List (List ℕ)) (o : Option (List ℕ)) → o ≡ None → with_opening so_far o ≡ so_far
same_names names so_far o e = ap (with_opening so_far) e

-- where a block is open, and where none is
pub inside_of : (place : Place) (said : Said)
    → (not place.inside && not (spec.is_proc said || spec.is_skipped said)) ≡ false
    → (spec.is_proc said || spec.is_skipped said) ≡ false → place.inside ≡ true
inside_of place said e t =
    not_false place.inside (not_both (not place.inside) (not (spec.is_proc said || spec.is_skipped said)) e (ap not t))

opened_names : (names so_far : List (List ℕ)) (place : Place) (name : List ℕ) (number : ℕ)
    → AreOpened names so_far place → place.inside ≡ false → number ≡ length place.blocks + 1
    → number_of names name ≡ Some number → number ≤ 32
    → AreOpened names (with_name so_far name) (spec.opened place name number)
opened_names names so_far place name number h out n is few =
    let blocks : so_far ≡ block_names place.blocks =
    h.opened ∙ ap (λ b. block_names place.blocks ++ open_names b place.name) out
    ∙ append-nil (block_names place.blocks) in
    let count : length so_far ≡ length place.blocks =
    ap length blocks ∙ length-map place.blocks (λ (b : Block). b.name) in
    let absent : list_any (bytes_eq name) so_far ≡ false =
    not_among names 1 number so_far name h.numbered is (omega (arith, count, n)) in
    let added : with_name so_far name ≡ so_far ++ name ∷ [] = ap (λ b. cond b so_far (so_far ++ name ∷ [])) absent in
    record {
      opened = added ∙ ap (λ (xs : List (List ℕ)). xs ++ name ∷ []) blocks;
      numbered = subst (AreNumbered names 1) (sym added)
          (numbered-push names 1 number so_far name h.numbered (omega (arith, count, n)) is);
      few = omega (arith, ap length added, length-append so_far (name ∷ []), count, n, few);
    }

ended_names : (names so_far : List (List ℕ)) (place : Place) (implied : ℕ) → AreOpened names so_far place
    → place.inside ≡ true → AreOpened names so_far (spec.ended place implied)
ended_names names so_far place implied h in_block =
    let block : Block = record { name = place.name; lines = place.lines } in
    record {
      opened = h.opened ∙ ap (λ b. block_names place.blocks ++ open_names b place.name) in_block
          ∙ sym (map_push (λ (b : Block). b.name) place.blocks block)
          ∙ sym (append-nil (block_names (place.blocks ++ block ∷ [])));
      numbered = h.numbered;
      few = h.few;
    }

-- true is not false
pub not_true : true ≡ false → ⊥
not_true e = cc

same_number : (n k : ℕ) → not (eqb n k) ≡ false → n ≡ k
same_number n k e = eqb-true n k (not_false (eqb n k) e)

-- a block that opens without a fault has the next number, at most 32
pub number_here : (place : Place) (size : ℕ) (name : List ℕ) (number : ℕ)
    → IsFaultless place size (Opens name number) → (place.inside ≡ false) × (number ≡ length place.blocks + 1)
    × (number ≤ 32)
number_here place size name number f =
    let out : place.inside ≡ false = not_both place.inside true f.no_end refl in
    let n : number ≡ length place.blocks + 1 =
    same_number number (length place.blocks + 1)
    (neither (not (eqb number (length place.blocks + 1))) (place.over && false) f.good).0 in
    (out, n, omega (arith, n, ltb-false 32 (length place.blocks + 1) f.few_procs))

-- each line without a fault keeps the names of the blocks those of the text so far
pub names_step : (names so_far : List (List ℕ)) (place : Place) (size : ℕ) (o : Option (List ℕ))
    (said : Said) → AreOpened names so_far place → IsFine names o said
    → ((x : List ℕ) → o ≡ Some x → said ≡ proc_from (number_of names x) x) → IsFaultless place size said
    → AreOpened names (with_opening so_far o) (spec.behind place said)
names_step names so_far place size o (Opens name number) h fine from f =
    let here = number_here place size name number f in
    subst (λ (p : Option (List ℕ)). AreOpened names (with_opening so_far p) (spec.opened place name number))
    (sym fine.2) (opened_names names so_far place name number h here.0 here.1 fine.1 here.2)
names_step names so_far place size o Skipped h fine from f =
    subst (λ ns. AreOpened names ns place)
    (sym (same_names names so_far o (no_opening names o Skipped from skipped_differs))) h
names_step names so_far place size o Ends h fine from f =
    subst (λ ns. AreOpened names ns (spec.behind place Ends))
    (sym (same_names names so_far o (no_opening names o Ends from ends_differs)))
    (ended_names names so_far place (spec.calls_of place Ends) h (inside_of place Ends f.no_proc refl))
names_step names so_far place size o (Forks set None) h fine from f =
    subst (λ ns. AreOpened names ns place)
    (sym (same_names names so_far o (no_opening names o (Forks set None) from (forks_differs set None)))) h
names_step names so_far place size o (Forks set (Some number)) h fine from f =
    subst (λ ns. AreOpened names ns (spec.forking place set number))
    (sym (same_names names so_far o
    (no_opening names o (Forks set (Some number)) from (forks_differs set (Some number)))))
    (record { opened = h.opened; numbered = h.numbered; few = h.few })
names_step names so_far place size o (Calls line) h fine from f =
    subst (λ ns. AreOpened names ns (spec.calling place line))
    (sym (same_names names so_far o (no_opening names o (Calls line) from (calls_differs line))))
    (record { opened = h.opened; numbered = h.numbered; few = h.few })
names_step names so_far place size o BadProc h fine from f = absurd (not_true f.good)
names_step names so_far place size o Bad h fine from f = absurd (not_true f.good)
names_step names so_far place size o Unknown h fine from f =
    let out : place.inside ≡ false = not_both place.inside true f.known_call refl in
    let within : place.inside ≡ true = inside_of place Unknown f.no_proc refl in
    absurd (let wrong : false ≡ true = sym out ∙ within in cc)
