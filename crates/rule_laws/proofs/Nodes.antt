-- What holds of a node whose deeds of queues and sets are other ones.
use Rattle.std.proofs.Common.{◌≡◌, ℕ, Bool, true, false, not, ◌&&◌, refl, ap, sym, subst, ◌∙◌}
use Rattle.std.proofs.lemmas.Bool.{false≢true}
use Rattle.pico_base.specs.declared.numbers.Name.{Name}
use Rattle.pico_base.specs.declared.numbers.Name.TheVariants.{Proc, Msg, Sem}
use Rattle.pico_base.specs.declared.script.Script.{Script}
use Rattle.number_maps.specs.Maps.{Numbered, get}
use Rattle.node_model.specs.Kinds.{is_object, is_same_name, put_named, without_named}
use Rattle.node_model.specs.Bodies.{Body, Deeds}
use Rattle.node_model.specs.Watches.{Watches}
use Rattle.world_model.specs.Node.{Node, Stage, Unborn, Living, Leaving, Left, Over, is_unborn}
use Rattle.node_model.specs.Directory.{Directory}
use Rattle.world_model.specs.Step.{with_directory}
use Rattle.world_laws.specs.Sights.{is_born_stage}
use Rattle.world_laws.specs.Families.{NodeHolds, HoldsIn, HoldsRow, is_first_stage}
use Rattle.world_laws.proofs.NameFacts.{has_left}

-- a queue's or set's deed leaves the processes' alone
pub processes-without : (deeds : Deeds) (name : Name) → is_object name ≡ true
    → (without_named deeds name).processes ≡ deeds.processes
processes-without deeds (Proc pid) object = absurd (false≢true object)
processes-without deeds (Msg id) object = refl
processes-without deeds (Sem id) object = refl

-- so does one that comes
pub processes-with : (deeds : Deeds) (name : Name) (body : Body) → is_object name ≡ true
    → (put_named deeds name body).processes ≡ deeds.processes
processes-with deeds (Proc pid) body object = absurd (false≢true object)
processes-with deeds (Msg id) body object = refl
processes-with deeds (Sem id) body object = refl

-- a queue or set is no process
pub object-is-no-process : (name : Name) (pid : ℕ) → is_object name ≡ true → is_same_name name (Proc pid) ≡ false
object-is-no-process (Proc other) pid object = absurd (false≢true object)
object-is-no-process (Msg id) pid object = refl
object-is-no-process (Sem id) pid object = refl

-- who is not unborn is born
pub born-stage : (stage : Stage) → not (is_unborn stage) ≡ true → is_born_stage stage ≡ true
born-stage Unborn h = absurd (false≢true h)
born-stage Living h = refl
born-stage Leaving h = refl
born-stage Left h = refl
born-stage Over h = refl

row-stays : (deeds deeds' : Deeds) (pid : ℕ) → deeds'.processes ≡ deeds.processes → HoldsRow deeds pid
    → HoldsRow deeds' pid
row-stays deeds deeds' pid e h =
    record { row = h.row; here = ap (λ (m : Numbered Body). get m pid) e ∙ h.here }

-- what a node holds by its stage stays with the same processes
pub holds-stay : (p : ℕ) (n m : Node) (stage : Stage) → is_born_stage stage ≡ true → has_left stage ≡ false
    → m.pid ≡ n.pid
    → m.deeds.processes ≡ n.deeds.processes → HoldsIn p n stage → HoldsIn p m stage
holds-stay p n m Unborn born here pid e h = absurd (false≢true born)
holds-stay p n m Living born here pid e h =
    subst (λ q. HoldsRow m.deeds q) (sym pid) (row-stays n.deeds m.deeds n.pid e h)
holds-stay p n m Leaving born here pid e h =
    subst (λ q. HoldsRow m.deeds q) (sym pid) (row-stays n.deeds m.deeds n.pid e h)
holds-stay p n m Left born here pid e h = absurd (false≢true (sym here))
holds-stay p n m Over born here pid e h = h

-- a node that hasn't left, with other queues and sets
pub node-with-objects : (script : Script) (pids : ℕ → ℕ) (born : ℕ → Bool) (p : ℕ) (n : Node) (deeds : Deeds)
    (watches : Watches)
    → is_born_stage n.stage ≡ true → has_left n.stage ≡ false → deeds.processes ≡ n.deeds.processes
    → NodeHolds script pids born p n
    → NodeHolds script pids born p (record n { deeds = deeds; watches = watches })
node-with-objects script pids born p n deeds watches is_born here e h =
    record {
      number = h.number;
      holds = holds-stay p n (record n { deeds = deeds; watches = watches }) n.stage is_born here refl e h.holds;
      birth = h.birth;
      first = h.first;
      others = h.others;
      rows = λ pid row there. h.rows pid row (ap (λ (m : Numbered Body). get m pid) (sym e) ∙ there);
      owners = h.owners;
    }

first-stage : (stage : Stage) → is_first_stage stage ≡ true → (is_born_stage stage ≡ true) × (has_left stage ≡ false)
first-stage Living h = (refl, refl)
first-stage Over h = (refl, refl)
first-stage Unborn h = absurd (false≢true h)
first-stage Leaving h = absurd (false≢true h)
first-stage Left h = absurd (false≢true h)

-- node 1 is born, and stays
pub leader-stage : (script : Script) (pids : ℕ → ℕ) (born : ℕ → Bool) (p : ℕ) (n : Node) → p ≡ 1
    → NodeHolds script pids born p n → (is_born_stage n.stage ≡ true) × (has_left n.stage ≡ false)
leader-stage script pids born p n e h = first-stage n.stage (h.first e)

-- the leader, with another directory
pub node-with-directory : (script : Script) (pids : ℕ → ℕ) (born : ℕ → Bool) (p : ℕ) (n : Node) (d : Directory)
    → p ≡ 1 → NodeHolds script pids born p n → NodeHolds script pids born p (with_directory n d)
node-with-directory script pids born p n d e h =
    let stage = leader-stage script pids born p n e h
    in record {
      number = h.number;
      holds = holds-stay p n (with_directory n d) n.stage stage.0 stage.1 refl refl h.holds;
      birth = h.birth;
      first = h.first;
      others = h.others;
      rows = h.rows;
      owners = h.owners;
    }

-- both hold
pub and-true : (a b : Bool) → a ≡ true → b ≡ true → (a && b) ≡ true
and-true a b h g = rw (h, g) refl
