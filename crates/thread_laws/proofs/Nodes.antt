-- What each node of a script made: its turns, the node that they lead to, and what is known of these.
use Rattle.std.proofs.Common.{◌≡◌, ℕ, [], subst, ◌∙◌, ◌⊎◌, inl, inr, arith}
use Rattle.std.specs.List.{flat_map, AllByRecursion}
use Rattle.std.proofs.lemmas.Bool.{cases_lt}
use Rattle.pico_base.specs.declared.script.Script.{Script}
use Rattle.world_model.specs.Node.{Node, opening_node}
use Rattle.world_model.specs.World.{IsNode, node_count}
use Rattle.stamp_merge.specs.Merge.{StampsRise}
use Rattle.log_laws.specs.Logs.{Log, items_in, LeadsTo, GoesBetween}
use Rattle.log_laws.specs.EventLogs.{event_log}
use Rattle.log_model.specs.Views.{LoggedNode}
use Rattle.log_model.specs.Logged.{others_of, others_in, IsLineOf, IsDrawn, Stands, GoesToOthers, SendsFrames, entries_under, IsLogged}

-- node p made these turns, and this is the node that they lead to
pub record HasMade (script : Script) (p : ℕ) (l : LoggedNode) (turns : Log) (last : Node) : Type 0 where
  pub number : l.number ≡ p
  pub other_nodes : others_in l.lines ≡ others_of script p
  pub leads : LeadsTo script (opening_node p) turns last
  pub rise : StampsRise (items_in p turns)
  pub log : l.log ≡ event_log p turns
  pub own : l.seat.own ≡ flat_map (entries_under p) turns
  pub between : AllByRecursion (GoesBetween script) turns
  pub others : AllByRecursion (GoesToOthers l.lines) turns
  pub frames : AllByRecursion SendsFrames turns
  pub drawn : AllByRecursion (IsDrawn turns l.seat.seen) turns
  pub lines : AllByRecursion (IsLineOf turns) l.lines
  pub stands : Stands script l turns last l.fault

has-made : (script : Script) (p : ℕ) (l : LoggedNode) (is : IsLogged script l) → l.number ≡ p
    → HasMade script p l is.turns is.last
has-made script p l is number =
    record {
      number = number;
      other_nodes = subst (λ n. others_in l.lines ≡ others_of script n) number is.of_script.others;
      leads = subst (λ n. LeadsTo script (opening_node n) is.turns is.last) number is.leads;
      rise = subst (λ n. StampsRise (items_in n is.turns)) number is.rise;
      log = subst (λ n. l.log ≡ event_log n is.turns) number is.log;
      own = subst (λ n. l.seat.own ≡ flat_map (entries_under n) is.turns) (is.seat ∙ number) is.own;
      between = is.between;
      others = is.others;
      frames = is.frames;
      drawn = is.drawn;
      lines = is.lines;
      stands = is.stands;
    }

-- the turns of each node of the script, and where they lead
pub record HaveMade (script : Script) (nodes : ℕ → LoggedNode) : Type 0 where
  pub logs : ℕ → Log
  pub last : ℕ → Node
  pub made : (p : ℕ) → IsNode script p → HasMade script p (nodes p) (logs p) (last p)

-- ---- from what each node keeps true

-- a number is that of a node of the script, or it isn't
pub node-or-none : (script : Script) (p : ℕ) → IsNode script p ⊎ (IsNode script p → ⊥)
node-or-none script p =
    elim (cases_lt 0 p) [
      | inl low ↦ elim (cases_lt (node_count script) p) [
        | inl above ↦ inr (λ is. let high = is.high in omega arith)
        | inr high ↦ inl (record { low = omega arith; high = high })
      ]
      | inr none ↦ inr (λ is. let low = is.low in omega arith)
    ]

-- what number p made, if it is a node
record IsMade (script : Script) (nodes : ℕ → LoggedNode) (p : ℕ) : Type 0 where
  log : Log
  last : Node
  made : IsNode script p → HasMade script p (nodes p) log last

module _ (script : Script) (nodes : ℕ → LoggedNode) (number : (p : ℕ) → IsNode script p → (nodes p).number ≡ p)
    (logged : (p : ℕ) → IsNode script p → IsLogged script (nodes p)) where
  is-made : (p : ℕ) → IsMade script nodes p
  is-made p =
      elim (node-or-none script p) [
        | inl is ↦ record {
          log = (logged p is).turns;
          last = (logged p is).last;
          made = λ again. has-made script p (nodes p) (logged p is) (number p is);
        }
        | inr none ↦ record { log = []; last = opening_node p; made = λ is. absurd (none is) }
      ]

  pub have-made : HaveMade script nodes
  have-made =
      record {
        logs = λ p. (is-made p).log;
        last = λ p. (is-made p).last;
        made = λ p is. (is-made p).made is;
      }
