-- What a node that isn't born finds first in the stream from the one that forks it is its Checkpoint. Only that makes
-- it born, so anything else would stand there for ever; but each run can be made longer until it rests, where nothing
-- is on its way.
use Rattle.std.proofs.Common.{◌≡◌, ◌≢◌, ℕ, zero, suc, ◌+◌, ◌*◌, ◌<◌, ◌≤◌, Bool, true, false, not, ◌||◌, List, [], ◌∷◌, ◌++◌, length, Option, Some, None, is_some, refl, ap, sym, subst, ◌∙◌, inl, inr, arith}
use Rattle.std.specs.Prelude.{Contains}
use Rattle.std.proofs.lemmas.Bool.{and_parts, cases_eq, false≢true}
use Rattle.pico_base.specs.declared.script.Event.{Event}
use Rattle.pico_base.specs.declared.script.Event.TheVariants as events
use Rattle.pico_base.specs.declared.script.Script.{Script}
use Rattle.rpc_frame.specs.declared.frame.Frame.{Frame}
use Rattle.rpc_frame.specs.declared.frame.Frame.TheVariants as frames
use Rattle.kernel_laws.proofs.Members.{contains-first}
use Rattle.kernel_laws.proofs.Plain.{from_some}
use Rattle.kernel_model.specs.Script.{IsSoundScript}
use Rattle.world_model.specs.Lives.{is_forked_by}
use Rattle.world_model.specs.Node.{Node, Stage, Unborn, Living, Leaving, Left, Over, is_born, is_living, is_unborn}
use Rattle.world_model.specs.Run.{IsAtRest, IsReachableWorld, IsRunOf}
use Rattle.world_model.specs.Step.{Step}
use Rattle.world_model.specs.World.{IsNode, World, is_checkpoint, is_enabled, node_at, opening_world, stream}
use Rattle.world_laws.specs.Invariant.{FramesFit, HasInvariant, Holds, MayBe}
use Rattle.world_laws.specs.Names.{forker}
use Rattle.world_laws.specs.Sights.{frames_to, is_born_in, node_of}
use Rattle.world_laws.proofs.Changes.{Changes, sent}
use Rattle.world_laws.proofs.Steps.{Heads, frames-low, node-there, taken-not-to}
use Rattle.rule_laws.proofs.Enabled.{IsTaken, enabled-takes}
use Rattle.rule_laws.proofs.own.Enabled.{IsRun, enabled-runs}
use Rattle.weight_laws.specs.Weights.{calls_of}
use Rattle.bound_laws.specs.Bounded.{IsShapedAndBounded}
use Rattle.bound_laws.proofs.Runs.{reachable-is-bounded}
use Rattle.run_laws.proofs.Runs.{runs_are_short_lemma, worlds_have_the_invariant_lemma}
use Rattle.rest_laws.specs.Laws.{IsQuiet}
use Rattle.rest_laws.proofs.Worlds.{rest_is_quiet_lemma}
use Rattle.log_laws.specs.Logs.{Input, Runs, Takes, stamped, turn_on}
use Rattle.log_laws.specs.Merge.{event_at}
use Rattle.turn_laws.specs.Forkers.{forker_of}
use Rattle.log_laws.specs.Follows.{StandsFirst}
use Rattle.turn_laws.specs.Laws.{IsTurnIn, UnbornTakeTheirCheckpoint, may_turn}
use Rattle.turn_laws.proofs.Enabled.{enabled_turns_have_steps_lemma}
use Rattle.turn_laws.proofs.Forkers.{forks-is-forker}
use Rattle.turn_laws.proofs.Turns.{LeadsOn, node-shown, runs-more, taken_by, turn-leads}

-- ---- an enabled event is a turn

record IsEvent (script : Script) (w : World) (e : Event) : Type 0 where
  node : ℕ
  stands : Node
  input : Input
  is : event_at node input ≡ e
  turn : IsTurnIn script w node stands input
  may : may_turn stands input ≡ true

event-is-turn : (script : Script) → IsSoundScript script → (w : World) (e : Event) → IsReachableWorld script w
    → is_enabled w e ≡ true → IsEvent script w e
event-is-turn script sound w (events.Run x) run enabled =
    let k : IsShapedAndBounded script w = reachable-is-bounded script sound w run
    in let r : IsRun script w x = enabled-runs script w x k.shape enabled
    in record {
      node = x;
      stands = node_of w x;
      input = Runs;
      is = refl;
      turn = record {
        reachable = run;
        is_node = record { low = r.low; high = r.high };
        node = node-there script w k.shape x r.low r.high;
        there = tt;
      };
      may = r.can;
    }
event-is-turn script sound w (events.Take x y) run enabled =
    let k : IsShapedAndBounded script w = reachable-is-bounded script sound w run
    in let t : IsTaken script w x y = enabled-takes script w x y k.shape enabled
    in let h : Heads script w x y t.frame t.rest = t.heads
    in record {
      node = x;
      stands = node_of w x;
      input = Takes y (stamped 0 t.frame);
      is = refl;
      turn = record {
        reachable = run;
        is_node = record { low = h.low; high = h.high };
        node = node-there script w k.shape x h.low h.high;
        there = record {
          sender = record { low = h.low_from; high = h.high_from };
          rest = t.rest;
          first = h.head;
        };
      };
      may = t.may;
    }

-- ---- small facts

unborn-stage-is-not-living : (s : Stage) → not (is_unborn s) ≡ false → is_living s ≡ false
unborn-stage-is-not-living Unborn h = refl
unborn-stage-is-not-living Living h = absurd (false≢true (sym h))
unborn-stage-is-not-living Leaving h = refl
unborn-stage-is-not-living Left h = refl
unborn-stage-is-not-living Over h = refl

checkpoint-is-from-forker : (script : Script) (born : ℕ → Bool) (to sender : ℕ) (f : Frame)
    → MayBe script born to sender f → is_checkpoint f ≡ true → sender ≡ forker script to
checkpoint-is-from-forker script born to sender (frames.Checkpoint pid parent deed vars) m h = m
checkpoint-is-from-forker script born to sender f m h = absurd (false≢true h)

same-first : (f g : Frame) (fs gs : List Frame) → f ∷ fs ≡ g ∷ gs → f ≡ g
same-first f g fs gs e = cc

not-nil : (f : Frame) (fs : List Frame) → f ∷ fs ≡ [] → ⊥
not-nil f fs e = cc

one-longer : (es : List Event) (e : Event) → length (es ++ e ∷ []) ≡ length es + 1
one-longer [] e = refl
one-longer (x ∷ es) e = let rest = one-longer es e in omega (arith, rest)

the-value : {A : Type 0} (o : Option A) → is_some o ≡ true → (x : A) × (o ≡ Some x)
the-value None h = absurd (false≢true h)
the-value (Some x) h = (x, refl)

-- ---- a frame that can't be taken

-- it stands first in the stream to a node that isn't born
record IsStuck (w : World) (p q : ℕ) (frame : Frame) : Type 0 where
  unborn : is_born (node_of w p) ≡ false
  rest : List Frame
  first : frames_to w p q ≡ frame ∷ rest

-- the world that an event leads to, where it is stuck still
record StaysStuck (script : Script) (es : List Event) (e : Event) (p q : ℕ) (frame : Frame) : Type 0 where
  next : World
  run : IsRunOf script (es ++ e ∷ []) next
  stuck : IsStuck next p q frame

module _ (script : Script) (sound : IsSoundScript script) (p q : ℕ) (frame : Frame) (low : 1 ≤ p) (low_from : 1 ≤ q)
    (forks : forker_of script p ≡ q) (plain : is_checkpoint frame ≡ false) where
  -- it stays where another node makes its turn
  elsewhere : (w : World) (x : ℕ) (input : Input) (s : Step) → p ≢ x → (l : LeadsOn script w x input s)
      → IsStuck w p q frame → IsStuck l.next p q frame
  elsewhere w x input s other l k =
      let c : Changes script x w l.next s.node (taken_by input) s.sends s.entries = l.changes
      in let left : c.left p q ≡ frame ∷ k.rest =
      sym (c.before p q ∙ ap (λ fs. fs ++ c.left p q) (taken-not-to x p q (taken_by input) other)) ∙ k.first
      in record {
        unborn = ap is_born (c.others p other) ∙ k.unborn;
        rest = k.rest ++ sent x s.sends p q;
        first = c.after p q ∙ ap (λ fs. fs ++ sent x s.sends p q) left;
      }

  -- a Checkpoint would stand first in its place
  no-checkpoint : (w : World) (y : ℕ) (f : Frame) → IsReachableWorld script w → StandsFirst script w p y f
      → is_checkpoint f ≡ true → IsStuck w p q frame → ⊥
  no-checkpoint w y f run first checks k =
      let i : HasInvariant script w = worlds_have_the_invariant_lemma script w sound run
      in let h : Holds script w [] i.beside = i.holds
      in let fit : FramesFit script (is_born_in w) (frames_to w) = h.frames_fit
      in let sender : IsNode script y = first.sender
      in let there : frames_to w p y ≡ f ∷ first.rest = frames-low w p y low sender.low ∙ first.first
      in let from : y ≡ q =
      checkpoint-is-from-forker script (is_born_in w) p y f
      (fit.may_be p y f (subst (λ fs. Contains fs f) (sym there) (contains-first f first.rest))) checks
      ∙ forks
      in let same : frame ≡ f =
      same-first frame f k.rest first.rest (sym k.first ∙ subst (λ z. frames_to w p z ≡ f ∷ first.rest) from there)
      in false≢true (sym plain ∙ ap is_checkpoint same ∙ checks)

  -- and the node itself makes none
  not-here : (w : World) (n : Node) (input : Input) → IsTurnIn script w p n input → may_turn n input ≡ true
      → IsStuck w p q frame → ⊥
  not-here w n Runs t may k =
      let unborn : is_born n ≡ false = sym (ap is_born (node-shown script sound w p n Runs t)) ∙ k.unborn
      in false≢true
      (sym (unborn-stage-is-not-living n.stage unborn)
      ∙ (and_parts (is_living n.stage) (not (is_some n.caller.under_way)) may).0)
  not-here w n (Takes y taken) t may k =
      let unborn : is_born n ≡ false =
      sym (ap is_born (node-shown script sound w p n (Takes y taken) t)) ∙ k.unborn
      in no-checkpoint w y taken.frame t.reachable t.there
      (sym (ap (λ b. b || is_checkpoint taken.frame) unborn) ∙ may) k

  -- So it stays in each event.
  stays-stuck : (w : World) (es : List Event) (e : Event) → IsRunOf script es w → is_enabled w e ≡ true
      → IsStuck w p q frame → StaysStuck script es e p q frame
  stays-stuck w es e run enabled k =
      let v : IsEvent script w e = event-is-turn script sound w e (es, run) enabled
      in elim (cases_eq p v.node) [
        | inl same ↦
            absurd
            (not-here w v.stands v.input
            (subst (λ x. IsTurnIn script w x v.stands v.input) (sym same) v.turn) v.may k)
        | inr other ↦
            let found = the-value (turn_on script v.stands v.input)
            (enabled_turns_have_steps_lemma script w v.node v.stands v.input sound v.turn v.may)
            in let l : LeadsOn script w v.node v.input found.0 =
            turn-leads script sound w v.node v.stands v.input found.0 v.turn found.1
            in record {
              next = l.next;
              run = subst (λ x. IsRunOf script (es ++ x ∷ []) l.next) v.is
                  (runs-more es (opening_world script) w l.next (event_at v.node v.input) run l.enabled l.steps);
              stuck = elsewhere w v.node v.input found.0 other l k;
            }
      ]

  -- If no longer run had it stuck, the world would be at rest.
  rests : (w : World) (es : List Event) → IsRunOf script es w → IsStuck w p q frame
      → ((next : World) (e : Event) → IsRunOf script (es ++ e ∷ []) next → IsStuck next p q frame → ⊥) → IsAtRest w
  rests w es run k none e = by (is_enabled w e) refl
    where
      by : (t : Bool) → is_enabled w e ≡ t → is_enabled w e ≡ false
      by false h = h
      by true h =
          let s : StaysStuck script es e p q frame = stays-stuck w es e run h k
          in absurd (none s.next e s.run s.stuck)

  -- But at rest nothing is on its way, and runs are short.
  never-stuck : (more : ℕ) (w : World) (es : List Event) → IsRunOf script es w → IsStuck w p q frame
      → 32 * calls_of script < length es + more → ⊥
  never-stuck zero w es run k far =
      let short = runs_are_short_lemma script sound es w run in omega (arith, short, far)
  never-stuck (suc more) w es run k far =
      let quiet : IsQuiet script w =
      rest_is_quiet_lemma script w sound (es, run)
      (rests w es run k
      (λ next e longer stuck. never-stuck more next (es ++ e ∷ []) longer stuck
      (let count = one-longer es e in omega (arith, far, count))))
      in not-nil frame k.rest (sym k.first ∙ frames-low w p q low low_from ∙ quiet.streams p q)

-- ---- the first frame

from-a-node : (script : Script) (w : World) (p q : ℕ) (n : Node) (frame : Frame) (rest : List Frame)
    → IsSoundScript script → IsReachableWorld script w → IsNode script p → node_at w p ≡ Some n → is_born n ≡ false
    → 1 ≤ q → is_forked_by script q p ≡ true → stream w p q ≡ frame ∷ rest → is_checkpoint frame ≡ true
from-a-node script w p q n frame rest sound run own there unborn low forks first = by (is_checkpoint frame) refl
  where
    k : IsShapedAndBounded script w
    k = reachable-is-bounded script sound w run

    shown : node_of w p ≡ n
    shown = from_some (node_of w p) n (sym (node-there script w k.shape p own.low own.high) ∙ there)

    stuck : IsStuck w p q frame
    stuck =
        record {
          unborn = ap is_born shown ∙ unborn;
          rest = rest;
          first = frames-low w p q own.low low ∙ first;
        }

    by : (t : Bool) → is_checkpoint frame ≡ t → is_checkpoint frame ≡ true
    by true h = h
    by false plain =
        absurd
        (never-stuck script sound p q frame own.low low (forks-is-forker script sound q p low forks) plain
        (suc (32 * calls_of script)) w run.0 run.1 stuck (omega arith))

-- Number 0 shows the stream, and the block, of node 1.
pub unborn_take_their_checkpoint_lemma : UnbornTakeTheirCheckpoint
unborn_take_their_checkpoint_lemma script w p zero n frame rest sound run own there unborn forks first =
    from-a-node script w p 1 n frame rest sound run own there unborn (omega arith) forks first
unborn_take_their_checkpoint_lemma script w p (suc q) n frame rest sound run own there unborn forks first =
    from-a-node script w p (suc q) n frame rest sound run own there unborn (omega arith) forks first
