-- The derived equality of names is the one of the definitions.
use Rattle.std.proofs.Common.{◌≡◌, refl}
use Rattle.pico_base.specs.declared.numbers.Name.{Name}
use Rattle.pico_base.specs.declared.numbers.Name.TheVariants.{Proc, Msg, Sem}
use Rattle.pico_base.specs.contracts.numbers.NamePartialEq.TheImpl.{eq-value}
use Rattle.node_model.specs.Kinds.{is_same_name}

-- the test for equal names by code is the one of the definitions
pub tests_same : (a b : Name) → eq-value.it a b ≡ is_same_name a b
tests_same (Proc a) (Proc b) = refl
tests_same (Msg a) (Msg b) = refl
tests_same (Sem a) (Sem b) = refl
tests_same (Proc a) (Msg b) = refl
tests_same (Proc a) (Sem b) = refl
tests_same (Msg a) (Proc b) = refl
tests_same (Msg a) (Sem b) = refl
tests_same (Sem a) (Proc b) = refl
tests_same (Sem a) (Msg b) = refl
