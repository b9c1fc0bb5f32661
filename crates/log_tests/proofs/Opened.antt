-- A node that has made no turn is one of a script with two.
use Rattle.std.proofs.Common.{◌≡◌, ℕ, ◌≤◌, not, nat_eq, [], ◌∷◌, ap, sym, subst, ◌∙◌}
use Rattle.std.specs.List.{filter}
use Rattle.pico_base.specs.declared.script.Script.{Script}
use Rattle.journal_core.specs.Seated.{Lock, Seated}
use Rattle.world_model.specs.World.{node_count, numbers}
use Rattle.log_model.specs.Logged.{others_of}
use Rattle.node_lines.specs.declared.end.End.{End}
use Rattle.log_tests.specs.Two.{opened_node, HasSeat}

-- its other node is the only one of the script's two that it isn't
pub opened-has-seat : (script : Script) (lock : Lock) (end : End) (seat : Seated) (k other : ℕ)
    → node_count script ≡ 2 → 1 ≤ k → k ≤ 2 → seat.number ≡ k → seat.lock ≡ lock.id → end.other ≡ other
    → other ∷ [] ≡ filter (λ q. not (nat_eq q k)) (numbers 1 2) → HasSeat script lock k (opened_node end seat)
opened-has-seat script lock end seat k other two low high number lock_is is others =
    record {
      of_script =
          record {
            low = subst (λ n. 1 ≤ n) (sym number) low;
            high = subst (λ n. n ≤ node_count script) (sym number) (subst (λ n. k ≤ n) (sym two) high);
            others =
                ap (λ o. o ∷ []) is
                ∙ others
                ∙ ap (λ n. filter (λ q. not (nat_eq q k)) (numbers 1 n)) (sym two)
                ∙ ap (λ n. others_of script n) (sym number);
            forker = λ q e. absurd (let f : ⊥ = cc in f);
          };
      lock_is = lock_is;
      number_is = number;
    }
