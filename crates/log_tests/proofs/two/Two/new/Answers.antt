use Rattle.std.proofs.Common.{◌∷◌, [], refl, sym, subst, arith}
use Rattle.journal_core.specs.Seated.{Lock, AreNumbered}
use Rattle.log_tests.specs.Two.{AreTwo, HasSeat}
use Rattle.log_tests.proofs.Opened.{opened-has-seat}
use Rattle.log_tests.proofs.two.Two.new.Goals as goal

pub returns : goal.returns
returns g c =
    let script = c.args.script.now
    in let lock = c.in_ok-lock.lock
    in let numbered : AreNumbered lock.id 1 (c.two_of-seat.result.0 ∷ c.two_of-seat.result.1 ∷ []) =
    subst (AreNumbered lock.id 1) c.two_of-seat.ensures c.in_ok-lock.ensures.all.0
    in let first = c.in_ok-node_by.field-0
    in let second = c.in_ok-node_by-2.field-0
    in subst (λ (l : Lock). AreTwo script l first.value second.value) (sym c.lock.view_is)
    (record {
      seats = c.in_ok-lock.ensures.count;
      first_has =
          subst (HasSeat script lock 1) (sym c.in_ok-node_by.ensures)
          (opened-has-seat script lock _ _ 1 2 c.requires (omega arith) (omega arith) numbered.1 numbered.0
          c.in_ok-end.ensures.others.0 refl);
      second_has =
          subst (HasSeat script lock 2) (sym c.in_ok-node_by-2.ensures)
          (opened-has-seat script lock _ _ 2 1 c.requires (omega arith) (omega arith) numbered.2.1 numbered.2.0
          c.in_ok-end.ensures.others.1 refl);
    })
