-- One more node's process has a number: nodes, ways and parcels hold with it as before.
use Rattle.std.proofs.Common.{◌≡◌, ◌≢◌, ℕ, Bool, [], ◌∷◌, Option, ap, sym, subst, ◌∙◌}
use Rattle.pico_base.specs.declared.call.Call.{Call}
use Rattle.pico_base.specs.declared.script.Script.{Script}
use Rattle.rpc_frame.specs.declared.deed.Parcel.{Parcel}
use Rattle.rpc_frame.specs.declared.frame.Frame.TheVariants as frames
use Rattle.number_maps.specs.Maps.{get}
use Rattle.node_model.specs.Bodies.{Body}
use Rattle.node_model.specs.Parcels.{is_over_but_for}
use Rattle.std.specs.Prelude.{true}
use Rattle.std.specs.List.{AllByRecursion}
use Rattle.world_model.specs.Node.{Leaving, Left, Living, Node, Over, Stage, Unborn}
use Rattle.world_laws.specs.Names.{forker}
use Rattle.world_laws.specs.Families.{BornIn, IsBorn, NodeHolds}
use Rattle.world_laws.specs.Ways.{HasSender, Way, WaySight, collected, gone, here, over, tells}

born-one : (script : Script) (pids now : ℕ → ℕ) (p pid parent parent_node : ℕ)
    → (pids p ≢ 0 → now p ≡ pids p) → (pids p ≢ 0 → now (forker script p) ≡ pids (forker script p))
    → IsBorn script pids p pid parent parent_node → IsBorn script now p pid parent parent_node
born-one script pids now p pid parent parent_node own its h =
    record {
      pid_is = h.pid_is ∙ sym (own h.forked);
      parent_is = λ later. h.parent_is later ∙ sym (its h.forked);
      parent_node_is = h.parent_node_is;
      forked = λ none. h.forked (sym (own h.forked) ∙ none);
    }

-- a born node's process has its number, and its parent's
pub born-with : (script : Script) (pids now : ℕ → ℕ) (p pid parent parent_node : ℕ) (stage : Stage)
    → (pids p ≢ 0 → now p ≡ pids p) → (pids p ≢ 0 → now (forker script p) ≡ pids (forker script p))
    → BornIn script pids p pid parent parent_node stage → BornIn script now p pid parent parent_node stage
born-with script pids now p pid parent parent_node Unborn own its h = h
born-with script pids now p pid parent parent_node Living own its h =
    born-one script pids now p pid parent parent_node own its h
born-with script pids now p pid parent parent_node Leaving own its h =
    born-one script pids now p pid parent parent_node own its h
born-with script pids now p pid parent parent_node Left own its h =
    born-one script pids now p pid parent parent_node own its h
born-with script pids now p pid parent parent_node Over own its h =
    born-one script pids now p pid parent parent_node own its h

-- a node holds what it held
pub node-with : (script : Script) (pids now : ℕ → ℕ) (born : ℕ → Bool) (p : ℕ) (n : Node)
    → (pids p ≢ 0 → now p ≡ pids p) → (pids p ≢ 0 → now (forker script p) ≡ pids (forker script p))
    → NodeHolds script pids born p n → NodeHolds script now born p n
node-with script pids now born p n own its h =
    record {
      number = h.number;
      holds = h.holds;
      birth = born-with script pids now p n.pid n.parent n.parent_node n.stage own its h.birth;
      first = h.first;
      others = h.others;
      rows = h.rows;
      owners = h.owners;
    }

-- a node leaves as it left
pub way-with : (script : Script) (pids now : ℕ → ℕ) (c : ℕ) (knows : Bool) (x : WaySight) → now c ≡ pids c
    → now (forker script c) ≡ pids (forker script c) → Way script pids c knows x → Way script now c knows x
way-with script pids now c knows x own its (here h) = here h
way-with script pids now c knows x own its (tells h) =
    tells
    (record {
      stage = h.stage;
      shows = record {
        has_leavings = h.shows.has_leavings
            ∙ ap (λ q. frames.Leaving q (pids (forker script c)) (forker script c) ∷ []) (sym own)
            ∙ ap (λ q. frames.Leaving (now c) q (forker script c) ∷ []) (sym its);
        has_recalls = h.shows.has_recalls;
        has_parting = h.shows.has_parting;
      };
      lefts = h.lefts;
    })
way-with script pids now c knows x own its (collected h) = collected h
way-with script pids now c knows x own its (over h) = over h
way-with script pids now c knows x own its (gone h) = gone h

-- and each parcel is of the node that it was of
pub sender-with : (script : Script) (pids now : ℕ → ℕ) (stages : ℕ → Stage) (under_way : ℕ → Option Call)
    (parcel : Parcel) → ((c : ℕ) → stages c ≡ Left → now c ≡ pids c)
    → ((c : ℕ) → stages c ≡ Left → now (forker script c) ≡ pids (forker script c))
    → HasSender script pids stages under_way parcel → HasSender script now stages under_way parcel
sender-with script pids now stages under_way parcel own its h =
    record {
      node = h.node;
      call = h.call;
      stage = h.stage;
      ends_by = h.ends_by;
      is_of = record {
        pid = h.is_of.pid ∙ sym (own h.node h.stage);
        parent = h.is_of.parent ∙ sym (its h.node h.stage);
        call_is = h.is_of.call_is;
        bodies = h.is_of.bodies;
        packed = h.is_of.packed;
        ordered = h.is_of.ordered;
        row = h.is_of.row;
        own = ap (get h.is_of.bodies) (own h.node h.stage) ∙ h.is_of.own;
        allowed = h.is_of.allowed;
        others = subst (λ q. AllByRecursion (λ (e : ℕ × Body). is_over_but_for q e ≡ true) h.is_of.bodies)
            (sym (own h.node h.stage)) h.is_of.others;
      };
    }
