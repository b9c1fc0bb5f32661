-- A process that makes a call of its own.
use Rattle.std.proofs.Common.{◌≡◌, ◌∙◌, ℕ, Bool, true, false, not, ◌||◌, nat_eq, refl, sym, ap, arith}
use Rattle.std.specs.Prelude.{Contains}
use Rattle.std.specs.List.{list_any}
use Rattle.std.proofs.lemmas.List.Folds.{list_any_at}
use Rattle.pico_base.specs.declared.reply.Ending.{Ending}
use Rattle.kernel_model.specs.Row.{EndedChild, Family, ended_child}
use Rattle.fork_wait.specs.Children.{is_child}
use Rattle.fork_wait.proofs.Families.{list_any-children}
use Rattle.serve_laws.specs.Served.{MakesOwn}
use Rattle.node_serve.specs.declared.body.Body.{Body}
use Rattle.node_serve.specs.declared.body.Body.TheVariants.{Living}
use Rattle.node_serve.specs.declared.body.Row.{Row}
use Rattle.node_serve.specs.Bodies.{body_of, row_of}

same-number : (n k : ℕ) → n ≡ k → nat_eq n k ≡ true
same-number n k same = grind arith

or-else : (a b : Bool) → b ≡ true → (a || b) ≡ true
or-else true b found = refl
or-else false b found = found

-- an ended child is a child
ended-is-child : (f : Family) (caller child : ℕ) (ending : Ending) → Contains f.ended (ended_child child ending)
    → caller ≡ child → is_child f caller ≡ true
ended-is-child f caller child ending there same =
    sym (list_any-children caller f.living f.ended)
    ∙ or-else (list_any (nat_eq caller) f.living) _
    (list_any_at (λ (e : EndedChild). nat_eq caller e.pid) f.ended there.0 (ended_child child ending) there.1
    (ap (λ (e : EndedChild). nat_eq caller e.pid) there.2 ∙ same-number caller child same))

differ : (a b : Bool) → a ≡ b → not a ≡ true → b ≡ true → ⊥
differ true b is apart found = absurd (cc)
differ false b is apart found = absurd (cc)

-- a living process that isn't among its own children makes calls of its own
pub makes-own : (body : Body) (row : Row) (caller : ℕ) (is : Bool) → body ≡ Living row → is ≡ is_child row.family caller
    → not is ≡ true → MakesOwn caller (body_of body)
makes-own body row caller is living asked apart = record {
  row = row_of row;
  lives = ap body_of living;
  apart = λ child ending there same.
      differ is (is_child row.family caller) asked apart (ended-is-child row.family caller child ending there same);
}
