-- The middle of an event: a step has grown, and the world changes by what it has grown by.
use Rattle.std.proofs.Common.{◌≡◌, ℕ, ◌-◌, ◌≤◌, List, [], ◌∷◌, ◌++◌, refl, ap, sym, subst, ◌∙◌, append_assoc, set-set}
use Rattle.pico_base.specs.declared.reply.Entry.{Entry}
use Rattle.pico_base.specs.declared.script.Script.{Script}
use Rattle.rpc_frame.specs.declared.frame.Frame.{Frame}
use Rattle.world_model.specs.Step.{Step}
use Rattle.world_model.specs.World.{World, Streams, node_count, with_sent, with_all_sent, world_after}
use Rattle.world_laws.specs.Invariant.{IsShaped}
use Rattle.world_laws.proofs.Sends.{AreToNodes}
use Rattle.world_laws.proofs.Changes.{Changes}
use Rattle.world_laws.proofs.Steps.{changes-by-run}

-- the second step is the first, and then these frames and entries
pub record GrowsBy (s t : Step) (sends : List (ℕ × Frame)) (entries : List Entry) : Type 0 where
  pub sends_are : t.sends ≡ s.sends ++ sends
  pub entries_are : t.entries ≡ s.entries ++ entries

all-sent-append : (p : ℕ) (ss : Streams) (xs ys : List (ℕ × Frame))
    → with_all_sent p ss (xs ++ ys) ≡ with_all_sent p (with_all_sent p ss xs) ys
all-sent-append p ss [] ys = refl
all-sent-append p ss (x ∷ xs) ys = all-sent-append p (with_sent p ss x) xs ys

abbrev grown : Step → List (ℕ × Frame) → List Entry → Step
grown t sends entries = record { node = t.node; entries = entries; sends = sends; strikes = t.strikes }

world-grown : (v : World) (p : ℕ) (s t : Step) (sends : List (ℕ × Frame)) (entries : List Entry)
    → GrowsBy s t sends entries
    → world_after (world_after v p s) p (grown t sends entries) ≡ world_after v p t
world-grown v p s t sends entries g = λ i. record {
  script = v.script;
  nodes = set-set v.nodes (p - 1) s.node t.node i;
  streams = (sym (ap (with_all_sent p v.streams) g.sends_are ∙ all-sent-append p v.streams s.sends sends)) i;
  journal = (append_assoc v.journal s.entries entries ∙ ap (λ es. v.journal ++ es) (sym g.entries_are)) i;
}

-- in the middle of an event of node p
pub changes-further : (script : Script) (v : World) (p : ℕ) (s t : Step) (sends : List (ℕ × Frame))
    (entries : List Entry)
    → IsShaped script (world_after v p s) → 1 ≤ p → p ≤ node_count script → AreToNodes (node_count script) sends
    → GrowsBy s t sends entries
    → Changes script p (world_after v p s) (world_after v p t) t.node [] sends entries
changes-further script v p s t sends entries shape low high to_nodes g =
    subst (λ (x : World). Changes script p (world_after v p s) x t.node [] sends entries)
    (world-grown v p s t sends entries g)
    (changes-by-run script (world_after v p s) shape p (grown t sends entries) low high to_nodes)
