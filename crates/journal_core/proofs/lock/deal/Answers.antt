use Rattle.std.proofs.Common.{◌≡◌, ◌+◌, [], ◌∷◌, ◌++◌, length, length-append, arith, sym, ap, ◌∙◌, subst}
use Rattle.journal_core.specs.Rule.{newcomer, one_more_given}
use Rattle.journal_core.specs.Seated.{Seated, AreNumbered, AreNew}
use Rattle.journal_core.specs.Steps.{Mine}
use Rattle.journal_core.proofs.Seats.{gives}
use Rattle.journal_core.proofs.Gathering.{numbered_behind, new_behind}
use Rattle.journal_core.proofs.lock.deal.Goals as goal

pub split_seat-seat-requires : goal.split_seat-seat-requires
split_seat-seat-requires c =
    let i = c.loop-given.invariant in
    let words = c.requires.board.0.0 in
    let key = c.requires.board.1 in
    let given : c.loop-given.first.me.0.given ≡ c.loop-given.given = ap (λ (m : Mine). m.0.given) i.1 in (
      i.0,
      omega arith,
      gives c.args.board.now.key c.loop-given.first.id c.loop-given.first.me.0
          (ap (λ (m : Mine). m.0.number) i.1) (omega arith),
    )

pub loop-given-preserved : goal.loop-given-preserved
loop-given-preserved c =
    let i = c.loop-given.invariant in
    let cut = c.split_seat-seat.ensures in
    let table = c.args.board.now.table_id in
    let items = c.loop-given.seats.items in
    let fresh = cut.4 ∙ ap (λ (m : Mine). (newcomer m.0.given, [])) i.1 in
    let seat = c.split_seat-seat.result in
    let s : Seated =
    record { lock = seat.table_id; number = seat.me.0.number; own = seat.me.0.own; seen = seat.me.0.seen } in
    let pushed : c.push.new.self.items ≡ items ++ s ∷ [] = c.in_ok-push.ensures.items in
    let count : length items + 1 ≡ c.loop-given.given = i.4 in
    let number : s.number ≡ c.loop-given.given + 1 = ap (λ (m : Mine). m.0.number) fresh in (
      cut.0 ∙ i.0,
      cut.2 ∙ ap (λ (m : Mine). (one_more_given m.0, m.1)) i.1,
      subst (AreNumbered table 2) (sym pushed) (numbered_behind table 2 items s i.2 (cut.3 ∙ i.0) (omega arith)),
      subst AreNew (sym pushed)
          (new_behind items s i.3 (ap (λ (m : Mine). m.0.own) fresh) (ap (λ (m : Mine). m.0.seen) fresh)),
      (let long : length c.push.new.self.items ≡ length items + 1 = ap length pushed
          ∙ length-append items (s ∷ []) in omega arith),
    )
