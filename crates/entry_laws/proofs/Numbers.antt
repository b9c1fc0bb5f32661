-- The numbers used after an entry: those before it, and the one of what it made.
use Rattle.std.proofs.Common.{◌≡◌, ◌≢◌, ℕ, Bool, true, false, ◌&&◌, ◌||◌, List, Option, Some, None, refl, ap, sym, ◌∙◌, inl, inr, nat_eq}
use Rattle.std.specs.Prelude.{is_some}
use Rattle.std.proofs.lemmas.Bool.{cases_eq, eq-eqb, ne_eqb}
use Rattle.pico_base.specs.declared.call.Call.{Call}
use Rattle.pico_base.specs.declared.numbers.Kind.{Kind}
use Rattle.pico_base.specs.declared.numbers.Name.{Name}
use Rattle.pico_base.specs.declared.numbers.Name.TheVariants.{Proc, Msg, Sem}
use Rattle.pico_base.specs.declared.reply.Reply.{Reply}
use Rattle.number_maps.specs.Maps.{get, is_used, used_with}
use Rattle.number_maps.proofs.Sets.{used-with-same, used-with-other}
use Rattle.kernel_model.specs.Kernel.{Kernel}
use Rattle.kernel_model.specs.Footprint.{used_of, grown_by}
use Rattle.kernel_model.specs.Valid.{IsValid}
use Rattle.node_model.specs.Kinds.{is_same_kind, kind_of, number_of}
use Rattle.entry_laws.specs.Entering.{Enters, is_used_name, used_after}

-- the number of this kind is that of what was made
abbrev pub is_made : Option Name → Kind → ℕ → Bool
is_made None kind number = false
is_made (Some name) kind number = is_same_kind (kind_of name) kind && nat_eq number (number_of name)

grown-is : (t : Bool) (used : List ℕ) (n number : ℕ)
    → is_used (grown_by t used n) number ≡ ((t && nat_eq number n) || is_used used number)
grown-is false used n number = refl
grown-is true used n number =
    elim (cases_eq number n) [
      | inl same ↦
          ap (is_used (used_with used n)) same ∙ used-with-same used n
          ∙ sym (ap (λ (b : Bool). b || is_used used number) (eq-eqb number n same))
      | inr other ↦
          used-with-other used n number other
          ∙ sym (ap (λ (b : Bool). b || is_used used number) (ne_eqb number n other))
    ]

after-is : (made : Option Name) (kind : Kind) (used : List ℕ) (number : ℕ)
    → is_used (used_after made kind used) number ≡ (is_made made kind number || is_used used number)
after-is None kind used number = refl
after-is (Some name) kind used number = grown-is (is_same_kind (kind_of name) kind) used (number_of name) number

-- by kind and number
pub used-at : (k : Kernel) (pid : ℕ) (call : Call) (reply : Reply) (made : Option Name) (next : Kernel)
    → Enters k pid call reply made next → (kind : Kind) (number : ℕ)
    → is_used (used_of next kind) number ≡ (is_made made kind number || is_used (used_of k kind) number)
used-at k pid call reply made next e kind number =
    ap (λ used. is_used used number) (e.used kind) ∙ after-is made kind (used_of k kind) number

-- where nothing is made the same names are used
pub used-kept : (k : Kernel) (pid : ℕ) (call : Call) (reply : Reply) (next : Kernel) → Enters k pid call reply None next
    → (m : Name) → is_used_name next m ≡ is_used_name k m
used-kept k pid call reply next e m = ap (λ used. is_used used (number_of m)) (e.used (kind_of m))

same-kind : (name : Name) → is_same_kind (kind_of name) (kind_of name) ≡ true
same-kind (Proc p) = refl
same-kind (Msg id) = refl
same-kind (Sem id) = refl

-- what is made is used
pub used-made : (k : Kernel) (pid : ℕ) (call : Call) (reply : Reply) (name : Name) (next : Kernel)
    → Enters k pid call reply (Some name) next → is_used_name next name ≡ true
used-made k pid call reply name next e =
    used-at k pid call reply (Some name) next e (kind_of name) (number_of name)
    ∙ ap (λ (b : Bool). (b && nat_eq (number_of name) (number_of name)) || is_used_name k name) (same-kind name)
    ∙ ap (λ (b : Bool). b || is_used_name k name) (eq-eqb (number_of name) (number_of name) refl)

other-made : (name m : Name) → m ≢ name → is_made (Some name) (kind_of m) (number_of m) ≡ false
other-made (Proc p) (Proc q) d = ne_eqb q p (λ (e : q ≡ p). d (ap Proc e))
other-made (Msg p) (Msg q) d = ne_eqb q p (λ (e : q ≡ p). d (ap Msg e))
other-made (Sem p) (Sem q) d = ne_eqb q p (λ (e : q ≡ p). d (ap Sem e))
other-made (Proc p) (Msg q) d = refl
other-made (Proc p) (Sem q) d = refl
other-made (Msg p) (Proc q) d = refl
other-made (Msg p) (Sem q) d = refl
other-made (Sem p) (Proc q) d = refl
other-made (Sem p) (Msg q) d = refl

-- and no other name than before
pub used-others : (k : Kernel) (pid : ℕ) (call : Call) (reply : Reply) (name : Name) (next : Kernel)
    → Enters k pid call reply (Some name) next → (m : Name) → m ≢ name → is_used_name next m ≡ is_used_name k m
used-others k pid call reply name next e m other =
    used-at k pid call reply (Some name) next e (kind_of m) (number_of m)
    ∙ ap (λ (b : Bool). b || is_used_name k m) (other-made name m other)

-- a number leads to a process exactly where it is used
pub process-there : (k : Kernel) (p : ℕ) → IsValid k → is_some (get k.processes p) ≡ is_used_name k (Proc p)
process-there k p valid = sym (valid.used_processes p)
