-- Ranges and leases by kind, and the home of a kill.
use Rattle.std.proofs.Common.{◌≡◌, ℕ, Bool, true, false, ◌==◌, if◌then◌else◌, List, [], ◌∷◌, ◌++◌, refl, sym}
use Rattle.std.proofs.lemmas.Bool.{false≢true}
use Rattle.pico_base.specs.declared.call.Home.{Home}
use Rattle.pico_base.specs.declared.call.Home.TheVariants as homes
use Rattle.pico_base.specs.declared.numbers.Kind.{Kind}
use Rattle.pico_base.specs.declared.numbers.Kind.TheVariants as kinds
use Rattle.pico_base.specs.declared.numbers.Name.{Name}
use Rattle.pico_base.specs.declared.numbers.Name.TheVariants.{Proc, Msg, Sem}
use Rattle.pico_base.specs.Home.{home_of_process, home_of_withdrawal}
use Rattle.node_model.specs.Kinds.{for_kind, is_same_kind, with_kind}
use Rattle.node_model.specs.Directory.{Directory, with_range}
use Rattle.node_model.specs.Leases.{Leases}

-- the test may be turned
pub same-kind-turned : (a c : Kind) → is_same_kind a c ≡ is_same_kind c a
same-kind-turned kinds.Proc kinds.Proc = refl
same-kind-turned kinds.Msg kinds.Msg = refl
same-kind-turned kinds.Sem kinds.Sem = refl
same-kind-turned kinds.Proc kinds.Msg = refl
same-kind-turned kinds.Proc kinds.Sem = refl
same-kind-turned kinds.Msg kinds.Proc = refl
same-kind-turned kinds.Msg kinds.Sem = refl
same-kind-turned kinds.Sem kinds.Proc = refl
same-kind-turned kinds.Sem kinds.Msg = refl

-- ---- ranges

-- a kind has one more range where one is given out
pub range-now : (d : Directory) (kind : Kind) (node : ℕ)
    → for_kind (with_range d kind node).ranges kind ≡ for_kind d.ranges kind ++ node ∷ []
range-now d kinds.Proc node = refl
range-now d kinds.Msg node = refl
range-now d kinds.Sem node = refl

-- and the other kinds have those that they had
pub range-still : (d : Directory) (kind other : Kind) (node : ℕ) → is_same_kind kind other ≡ false
    → for_kind (with_range d kind node).ranges other ≡ for_kind d.ranges other
range-still d kinds.Proc kinds.Msg node h = refl
range-still d kinds.Proc kinds.Sem node h = refl
range-still d kinds.Msg kinds.Proc node h = refl
range-still d kinds.Msg kinds.Sem node h = refl
range-still d kinds.Sem kinds.Proc node h = refl
range-still d kinds.Sem kinds.Msg node h = refl
range-still d kinds.Proc kinds.Proc node h = absurd (false≢true (sym h))
range-still d kinds.Msg kinds.Msg node h = absurd (false≢true (sym h))
range-still d kinds.Sem kinds.Sem node h = absurd (false≢true (sym h))

-- ---- leases

-- a lease that is given twice is the last
pub leased-twice : (m : Leases) (kind : Kind) (few many : List ℕ)
    → with_kind (with_kind m kind many) kind few ≡ with_kind m kind few
leased-twice m kinds.Proc few many = refl
leased-twice m kinds.Msg few many = refl
leased-twice m kinds.Sem few many = refl

-- ---- homes

-- what is so of one's own calls and of those on a process is so of a kill
pub kill-is : {A : Type 0} (f : Home → A) (a : A) (pid other : ℕ) → f homes.Own ≡ a → f (homes.At (Proc other)) ≡ a
    → f (home_of_process pid other) ≡ a
kill-is f a pid other own at = by-test (other == pid)
  where
    by-test : (t : Bool) → f (if t then homes.Own else homes.At (Proc other)) ≡ a
    by-test true = own
    by-test false = at

-- and what is so of those on any name, of a withdrawal
pub withdrawal-is : {A : Type 0} (f : Home → A) (a : A) (pid : ℕ) (name : Name) → f homes.Own ≡ a
    → ((other : Name) → f (homes.At other) ≡ a) → f (home_of_withdrawal pid name) ≡ a
withdrawal-is f a pid (Proc other) own on = kill-is f a pid other own (on (Proc other))
withdrawal-is f a pid (Msg id) own on = on (Msg id)
withdrawal-is f a pid (Sem id) own on = on (Sem id)
