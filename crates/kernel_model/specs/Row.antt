-- A living process: its signals, its family, and what it may still do (POSIX.1-2017: fork, _Exit, wait).
use Rattle.std.specs.Prelude.{ℕ, Bool, true, false, not, List, [], ◌∷◌, ◌++◌, if◌then◌else◌, Option, Some, None, is_some, nat_eq}
use Rattle.std.specs.List.{filter, list_any}
pub use Rattle.pico_base.specs.declared.reply.EndedChild.{EndedChild}
use Rattle.pico_base.specs.declared.reply.Ending.{Ending}
use Rattle.pico_base.specs.declared.signal.Sig.{Sig}
use Rattle.pico_base.specs.declared.signal.Sig.TheVariants.{Chld}
use Rattle.pico_base.specs.declared.signal.Act.{Act}
use Rattle.pico_base.specs.declared.signal.Act.TheVariants.{Dfl, Ign, Catch}
use Rattle.kernel_model.specs.Signals.{Signals, new_signals, inherit, raise}

abbrev pub ended_child : ℕ → Ending → EndedChild
ended_child pid ending = record { pid = pid; ending = ending }

-- the living children in order of fork, and the ended ones in order of end
pub record Family : Type 0 where
  pub living : List ℕ
  pub ended : List EndedChild

abbrev pub no_family : Family
no_family = record { living = []; ended = [] }

pub record Row : Type 0 where
  pub signals : Signals
  pub family : Family

abbrev pub new_row : Row
new_row = record { signals = new_signals; family = no_family }

-- the row of a forked child, which has no children (fork)
abbrev pub child_row : Row → Row
child_row row = record { signals = inherit row.signals; family = no_family }

-- the family with a new child
abbrev pub with_child : Family → ℕ → Family
with_child f child = record f { living = f.living ++ child ∷ [] }

abbrev pub lists : Family → ℕ → Bool
lists f child = list_any (nat_eq child) f.living

abbrev pub others : ℕ → List ℕ → List ℕ
others child children = filter (λ c. not (nat_eq child c)) children

-- a child has ended: its ending is kept for waitpid, unless the parent ignores CHLD (_Exit: consequences of the end of
-- a process)
abbrev pub family_after_end : Family → ℕ → Ending → Bool → Family
family_after_end f child ending ignored =
    record {
      living = others child f.living;
      ended = if ignored then f.ended else f.ended ++ ended_child child ending ∷ [];
    }

-- the action for CHLD is to ignore it: ended children aren't kept (_Exit)
abbrev pub is_ign : Act → Bool
is_ign Ign = true
is_ign Dfl = false
is_ign Catch = false

abbrev pub ignores_children : Row → Bool
ignores_children row = is_ign row.signals.actions.chld

-- waitpid: for any child, or for one
abbrev pub matches : Option ℕ → ℕ → Bool
matches None child = true
matches (Some which) child = nat_eq which child

-- the matching child that ended first (profile: waitpid leaves the order open)
abbrev pub first_ended_child : Option ℕ → List EndedChild → Option EndedChild
first_ended_child which [] = None
first_ended_child which (e ∷ es) = if matches which e.pid then Some e else first_ended_child which es

abbrev pub without_ended : ℕ → Family → Family
without_ended child f = record f { ended = filter (λ e. not (nat_eq child e.pid)) f.ended }

-- what waitpid finds: an ended child, only living ones, or none that matches
pub data Waited : Type 0 where
  Found : (child : ℕ) (ending : Ending) → Waited
  NotYet : Waited
  NoChild : Waited

abbrev pub wait_result : Option EndedChild → Bool → Waited
wait_result (Some e) living = Found e.pid e.ending
wait_result None living = if living then NotYet else NoChild

abbrev pub wait : Family → Option ℕ → Waited
wait f which = wait_result (first_ended_child which f.ended) (list_any (matches which) f.living)

-- What a process may still do (profile): anything, one more entry after the doom by another's entry, or
-- nothing but its own ending.
pub data Allowance : Type 0 where
  Free : Allowance
  One : Allowance
  Spent : Allowance

-- a living process, with its allowance beside its row
pub record Alive : Type 0 where
  pub row : Row
  pub allowance : Allowance

-- the allowance after a raise by another's entry
abbrev pub allowance_after_raise : Bool → Bool → Allowance → Allowance
allowance_after_raise before now allowance = if before then allowance else if now then One else allowance

-- a signal is raised by another's entry (kill; System Interfaces 2.4)
abbrev pub raise_by_other : Alive → Sig → Alive
raise_by_other a g =
    let signals = raise a.row.signals g
    in record {
      row = record { signals = signals; family = a.row.family };
      allowance = allowance_after_raise (is_some a.row.signals.doom) (is_some signals.doom) a.allowance;
    }

-- a child of this process has ended: it is listed as ended, or forgotten, and CHLD is raised where it isn't ignored
-- (_Exit)
abbrev pub with_ended_child : Alive → ℕ → Ending → Alive
with_ended_child a child ending =
    let ignored = ignores_children a.row
    in let next = record a {
      row =
          record { signals = a.row.signals; family = family_after_end a.row.family child ending ignored };
    }
    in if ignored then next else raise_by_other next Chld
