use Rattle.std.proofs.Common.{rules, ◌≡◌, List, ◌∷◌, ◌++◌, [], sym, ap, ◌∙◌}
use Rattle.std.specs.Vec.Iter.{into_iter_items, into_iter_len}
use Rattle.std.proofs.lemmas.List.{nil_from_length}
use Rattle.node_lines.specs.declared.end.End.{End}
use Rattle.pico_run.proofs.Settles.{ends-are-twins, last-end-is-there, next-corner, next-end-is-there, settling-end, settling-more}
use Rattle.pico_run.proofs.settling.settle_row.Goals as goal
use Rattle.pico_run.proofs.settling.settle_row.Goals.{in_default-via-in-Some+in_default, in_default-via-in_default}

pub unreachable-requires : goal.unreachable-requires
unreachable-requires g c =
    let next =
    next-corner c.requires.further c.requires.corners _ _ _ _ _
    (c.loop-other.invariant.settling c.requires.further c.requires.corners c.requires.has) c.in-Some.ensures.steps.0
    in elim c.in_default.branch [
      | in_default-via-in-Some+in_default w ↦
          let none : c.into_vec-other.result.items ≡ [] = search rules
          in last-end-is-there _ _ _ _ _ _ next (sym c.into_vec-other.ensures ∙ none)
      | in_default-via-in_default w ↦
          let none : into_iter_items c.loop-other.row ≡ [] =
          nil_from_length _ (sym c.loop-other.row.rest.ok.0 ∙ (let few : into_iter_len c.loop-other.row ≡ 0 =
          search rules in few))
          in next-end-is-there _ _ _ _ _ _ next none
    ]

pub settle_both-requires : goal.settle_both-requires
settle_both-requires g c =
    ends-are-twins c.requires.further c.requires.corners _ _ _ _ _ _ c.in-Some-Some.mine c.in-Some-Some.theirs
    (next-corner c.requires.further c.requires.corners _ _ _ _ _
    (c.loop-other.invariant.settling c.requires.further c.requires.corners c.requires.has) c.in-Some.ensures.steps.0)
    c.in-Some-Some.ensures.items (sym c.into_vec-other.ensures ∙ c.in-Some-Some.ensures'.items)

pub loop-other-preserved : goal.loop-other-preserved
loop-other-preserved g c = record {
  can_next = tt;
  is_finite = tt;
  settling = λ further corners has.
      settling-more further corners _ _ _ _ _ _ _ c.in-Some-Some.mine c.in-Some-Some.theirs
      (next-corner further corners _ _ _ _ _ (c.loop-other.invariant.settling further corners has)
      c.in-Some.ensures.steps.0)
      c.in-Some-Some.ensures.items (sym c.into_vec-other.ensures ∙ c.in-Some-Some.ensures'.items) c.settle_both.ensures
      (c.in_ok-push.ensures.items ∙ ap (λ (x : List End). c.loop-other.olds.items ++ x ∷ []) c.from_vec.ensures);
}

pub returns : goal.returns
returns g c =
    let none : into_iter_items c.loop-other.other-iterator ≡ [] =
    nil_from_length _ (sym c.loop-other.other-iterator.rest.ok.0 ∙ c.in-None.ensures.steps.0)
    in λ further corners has. settling-end further corners _ _ _
    (c.loop-other.invariant.settling further corners has) none
