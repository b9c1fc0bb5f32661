-- A node that puts another body under a name that it holds: it holds all that it should, as before.
use Rattle.std.proofs.Common.{◌≡◌, ◌≢◌, ℕ, Bool, true, false, Option, Some, None, refl, ap, sym, ◌∙◌, inl, inr}
use Rattle.std.proofs.lemmas.Bool.{false≢true}
use Rattle.pico_base.specs.declared.numbers.Name.{Name}
use Rattle.pico_base.specs.declared.numbers.Name.TheVariants.{Proc, Msg, Sem}
use Rattle.pico_base.specs.declared.script.Script.{Script}
use Rattle.number_maps.specs.Maps.{get}
use Rattle.kernel_model.specs.Kernel.{Kernel}
use Rattle.kernel_model.specs.Queue.{Queue}
use Rattle.kernel_model.specs.Row.{Row}
use Rattle.kernel_model.specs.SemaphoreSet.{SemaphoreSet}
use Rattle.node_model.specs.Bodies.{Body, Living as LivingBody, Ended, Gone, AQueue, ASet, Removed, Deeds, bare, body_in, is_living_body, queue_body, set_body}
use Rattle.node_model.specs.Caller.{Caller}
use Rattle.node_model.specs.Kinds.{get_named, none_named, put_named}
use Rattle.world_model.specs.Node.{Leader, Node, Stage, Unborn, Living, Leaving, Left, Over}
use Rattle.entry_laws.specs.Entering.{Lives, Same, SameKind}
use Rattle.entry_laws.proofs.Names.{get-put-other-name, get-put-same-name}
use Rattle.world_laws.specs.Families.{HoldsIn, HoldsRow, NodeHolds}
use Rattle.world_laws.proofs.Named.{name-cases}
use Rattle.world_laws.proofs.NameFacts.{holder-is-born}

-- ---- deeds

-- the name has this body then, and others are as before
pub record PutsBody (deeds after : Deeds) (name : Name) (body : Body) : Type 0 where
  pub here : get_named after name ≡ Some body
  pub others : (m : Name) → m ≢ name → get_named after m ≡ get_named deeds m

-- so it is once the body is put into the deeds
pub puts-body : (deeds : Deeds) (name : Name) (body : Body) → PutsBody deeds (put_named deeds name body) name body
puts-body deeds name body =
    record {
      here = get-put-same-name deeds name body;
      others = λ m other. get-put-other-name deeds name body m other;
    }

-- ---- bodies of those who live

-- who waits at a body is no matter for whether it is of one who lives
pub bare-lives : (body : Body) → is_living_body (bare body) ≡ is_living_body body
bare-lives (LivingBody row) = refl
bare-lives (Ended ending) = refl
bare-lives Gone = refl
bare-lives (AQueue q) = refl
bare-lives (ASet s) = refl
bare-lives Removed = refl

queue-lives : (o : Option Queue) → is_living_body (queue_body o) ≡ false
queue-lives None = refl
queue-lives (Some q) = refl

set-lives : (o : Option SemaphoreSet) → is_living_body (set_body o) ≡ false
set-lives None = refl
set-lives (Some s) = refl

same-kind-lives : (before after : Body) → SameKind before after → is_living_body after ≡ is_living_body before
same-kind-lives before after (Same e) = ap is_living_body e
same-kind-lives before after (Lives r s was now family) = ap is_living_body now ∙ sym (ap is_living_body was)

-- a part of the kernel is of a process that lives, or isn't, as before where processes' are
pub parts-live : (k next : Kernel) → ((p : ℕ) → SameKind (body_in k (Proc p)) (body_in next (Proc p)))
    → (name : Name) → is_living_body (body_in next name) ≡ is_living_body (body_in k name)
parts-live k next kinds (Proc p) = same-kind-lives (body_in k (Proc p)) (body_in next (Proc p)) (kinds p)
parts-live k next kinds (Msg id) = queue-lives (get next.queues id) ∙ sym (queue-lives (get k.queues id))
parts-live k next kinds (Sem id) = set-lives (get next.sets id) ∙ sym (set-lives (get k.sets id))

-- ---- the node

-- with this caller, these deeds, and this of the leader
abbrev pub node_with : Node → Caller → Deeds → Leader → Node
node_with n k deeds leader = record n { caller = k; deeds = deeds; leader = leader }

record LivesWith (o : Option Body) (body : Body) : Type 0 where
  row : Row
  is : o ≡ Some (LivingBody row)

lives-with : (o : Option Body) (body : Body) → o ≡ Some body → is_living_body body ≡ true → LivesWith o body
lives-with o (LivingBody row) is lives = record { row = row; is = is }
lives-with o (Ended ending) is lives = absurd (false≢true lives)
lives-with o Gone is lives = absurd (false≢true lives)
lives-with o (AQueue q) is lives = absurd (false≢true lives)
lives-with o (ASet s) is lives = absurd (false≢true lives)
lives-with o Removed is lives = absurd (false≢true lives)

some-body : (u v : Body) → Some u ≡ Some v → u ≡ v
some-body u v h = cc

none-is-some : (body : Body) → None ≡ Some body → ⊥
none-is-some body h = cc

holds-nothing : (name : Name) → get_named {V = Body} none_named name ≡ None
holds-nothing (Proc pid) = refl
holds-nothing (Msg id) = refl
holds-nothing (Sem id) = refl

module _ (script : Script) (pids : ℕ → ℕ) (born : ℕ → Bool) (p : ℕ) (n : Node) (h : NodeHolds script pids born p n)
    (name : Name) (old new : Body) (held : get_named n.deeds name ≡ Some old) (deeds : Deeds)
    (puts : PutsBody n.deeds deeds name new) (lives : is_living_body new ≡ is_living_body old) where
  row-before : (q : ℕ) (row : Row) → get_named deeds (Proc q) ≡ Some (LivingBody row)
      → LivesWith (get_named n.deeds (Proc q)) old
  row-before q row there =
      elim (name-cases (Proc q) name) [
        | inr d ↦ record { row = row; is = sym (puts.others (Proc q) d) ∙ there }
        | inl e ↦
            let now : new ≡ LivingBody row =
            some-body new (LivingBody row) (sym puts.here ∙ ap (get_named deeds) (sym e) ∙ there)
            in lives-with (get_named n.deeds (Proc q)) old (ap (get_named n.deeds) e ∙ held)
            (sym lives ∙ ap is_living_body now)
      ]

  row-after : HoldsRow n.deeds n.pid → HoldsRow deeds n.pid
  row-after r =
      elim (name-cases (Proc n.pid) name) [
        | inr d ↦ record { row = r.row; here = puts.others (Proc n.pid) d ∙ r.here }
        | inl e ↦
            let was : old ≡ LivingBody r.row =
            some-body old (LivingBody r.row) (sym held ∙ ap (get_named n.deeds) (sym e) ∙ r.here)
            in let now = lives-with (get_named deeds (Proc n.pid)) new (ap (get_named deeds) e ∙ puts.here)
            (lives ∙ ap is_living_body was)
            in record { row = now.row; here = now.is }
      ]

  module _ (k : Caller) (leader : Leader) where
    holds-by : (stage : Stage) → HoldsIn p n stage → HoldsIn p (node_with n k deeds leader) stage
    holds-by Living r = row-after r
    holds-by Leaving r = row-after r
    holds-by Over r = r
    holds-by Unborn r = absurd (false≢true (holder-is-born p n name old Unborn r held))
    holds-by Left r =
        absurd (none-is-some old (sym (ap (λ ds. get_named ds name) r ∙ holds-nothing name) ∙ held))

    -- It holds all that it should.
    pub node-puts : NodeHolds script pids born p (node_with n k deeds leader)
    node-puts =
        record {
          number = h.number;
          holds = holds-by n.stage h.holds;
          birth = h.birth;
          first = h.first;
          others = h.others;
          rows = λ q row there.
              let was = row-before q row there
              in h.rows q was.row was.is;
          owners = h.owners;
        }
