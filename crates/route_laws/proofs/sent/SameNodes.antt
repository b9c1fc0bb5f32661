-- A node that is the same but for its caller, its watches or its cache holds all that it should.
use Rattle.std.proofs.Common.{◌≡◌, ◌≢◌, ℕ, Bool, true, Contains}
use Rattle.std.proofs.lemmas.Bool.{false≢true}
use Rattle.pico_base.specs.declared.numbers.Name.{Name}
use Rattle.pico_base.specs.declared.script.Script.{Script}
use Rattle.world_model.specs.Node.{Node, Stage, Unborn, Living, Leaving, Left, Over}
use Rattle.world_laws.specs.Sights.{is_born_stage}
use Rattle.world_laws.specs.Families.{HoldsIn, NodeHolds}

holds-with : (p : ℕ) (n m : Node) (stage : Stage) → is_born_stage stage ≡ true → HoldsIn p n stage
    → HoldsIn p (record n { caller = m.caller; watches = m.watches; cache = m.cache }) stage
holds-with p n m Unborn born h = absurd (false≢true born)
holds-with p n m Living born h = h
holds-with p n m Leaving born h = h
holds-with p n m Left born h = h
holds-with p n m Over born h = h

-- a node that is born, with the caller, the watches and the cache of another one, whose owners are born and others
pub node-with : (script : Script) (pids : ℕ → ℕ) (born : ℕ → Bool) (p : ℕ) (n m : Node) → is_born_stage n.stage ≡ true
    → NodeHolds script pids born p n
    → ((name : Name) (owner : ℕ) → Contains m.cache (name, owner) → (born owner ≡ true) × (owner ≢ p))
    → NodeHolds script pids born p (record n { caller = m.caller; watches = m.watches; cache = m.cache })
node-with script pids born p n m is_born h owners =
    record {
      number = h.number;
      holds = holds-with p n m n.stage is_born h.holds;
      birth = h.birth;
      first = h.first;
      others = h.others;
      rows = h.rows;
      owners = owners;
    }
