-- The first number that passes a test, counted up; and which lines are looked at.
use Rattle.std.proofs.Common.{◌≡◌, ◌≢◌, ℕ, zero, suc, ◌+◌, ◌-◌, ◌<◌, ◌≤◌, Bool, true, false, ◌||◌, nat_eq, if◌then◌else◌, Some, None, refl, sym, ap, ◌∙◌, arith}
use Rattle.std.proofs.lemmas.Bool.{ne_eqb}
use Rattle.pico_base.specs.declared.script.Script.{Script}
use Rattle.world_model.specs.Node.{Node, is_born}
use Rattle.world_model.specs.World.{numbers}
use Rattle.world_laws.specs.Names.{first_that}
use Rattle.log_model.specs.Forkers.{forker_of}
use Rattle.log_model.specs.Turns.{may_take}
use Rattle.node_lines.specs.Lines.{may_look}

-- the first of `count` numbers from one more than this place
abbrev pub first_behind : (ℕ → Bool) → ℕ → ℕ → ℕ
first_behind test place count = first_that test (numbers (place + 1) count)

at_suc : (test : ℕ → Bool) (place count : ℕ)
    → first_behind test place (suc count)
    ≡ (if test (place + 1) then place + 1 else first_behind test (place + 1) count)
at_suc test place count = refl

unfolded : (test : ℕ → Bool) (place n : ℕ) → place < n
    → first_behind test place (n - place)
    ≡ (if test (place + 1) then place + 1 else first_behind test (place + 1) (n - (place + 1)))
unfolded test place n below =
    let e : n - place ≡ suc (n - (place + 1)) = omega arith in
    ap (first_behind test place) e ∙ at_suc test place (n - (place + 1))

-- the number behind this place passes
pub first_behind-here : (test : ℕ → Bool) (place n : ℕ) → place < n → test (place + 1) ≡ true
    → first_behind test place (n - place) ≡ place + 1
first_behind-here test place n below e =
    unfolded test place n below
    ∙ ap (λ b. if b then place + 1 else first_behind test (place + 1) (n - (place + 1))) e

-- or it doesn't
pub first_behind-next : (test : ℕ → Bool) (place n : ℕ) → place < n → test (place + 1) ≡ false
    → first_behind test place (n - place) ≡ first_behind test (place + 1) (n - (place + 1))
first_behind-next test place n below e =
    unfolded test place n below
    ∙ ap (λ b. if b then place + 1 else first_behind test (place + 1) (n - (place + 1))) e

-- and behind the last number there is none
pub first_behind-end : (test : ℕ → Bool) (place n : ℕ) → n ≤ place → first_behind test place (n - place) ≡ 0
first_behind-end test place n above =
    let e : n - place ≡ zero = omega arith in
    ap (first_behind test place) e

-- ---- which lines are looked at

pub looks_at_each : (script : Script) (number : ℕ) (n : Node) (other : ℕ) → is_born n ≡ true
    → may_look None other ≡ may_take script number n other
looks_at_each script number n other born = sym (ap (λ b. b || nat_eq other (forker_of script number)) born)

pub looks_at_forker : (script : Script) (number : ℕ) (n : Node) (q other : ℕ) → is_born n ≡ false
    → q ≡ forker_of script number → may_look (Some q) other ≡ may_take script number n other
looks_at_forker script number n q other unborn e =
    ap (nat_eq other) e ∙ sym (ap (λ b. b || nat_eq other (forker_of script number)) unborn)

pub looks_at_none : (script : Script) (number : ℕ) (n : Node) (other : ℕ) → is_born n ≡ false
    → forker_of script number ≡ 0 → 1 ≤ other → other ≢ number
    → may_look (Some number) other ≡ may_take script number n other
looks_at_none script number n other unborn e low apart =
    let d : other ≢ forker_of script number = λ same. omega (arith, same ∙ e) in
    ne_eqb other number apart ∙ sym (ne_eqb other (forker_of script number) d)
    ∙ sym (ap (λ b. b || nat_eq other (forker_of script number)) unborn)
