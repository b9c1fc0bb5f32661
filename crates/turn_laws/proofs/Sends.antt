-- A turn in a world of a run sends frames to other nodes, each within the limits of frames.
use Rattle.std.proofs.Common.{◌≡◌, ℕ, nat_eq, List, [], ◌∷◌, refl, sym, subst, inl, inr}
use Rattle.std.specs.Prelude.{Contains}
use Rattle.std.specs.List.{AllByRecursion}
use Rattle.std.proofs.lemmas.Bool.{eq-eqb}
use Rattle.std.proofs.lemmas.List.Elements.{All-contains, All-from_recursion, Contains-append_left, Contains-append_right}
use Rattle.pico_base.specs.declared.script.Script.{Script}
use Rattle.rpc_frame.specs.declared.frame.Frame.{Frame}
use Rattle.kernel_laws.proofs.Members.{contains-cases, contains-first, contains-later, contains-none}
use Rattle.kernel_model.specs.Script.{IsSoundScript}
use Rattle.world_model.specs.Run.{IsReachableWorld}
use Rattle.world_model.specs.Step.{Step}
use Rattle.world_model.specs.World.{IsNode, World}
use Rattle.world_laws.specs.Invariant.{FramesFit, HasInvariant, Holds}
use Rattle.world_laws.specs.Sights.{frames_to, is_born_in}
use Rattle.world_laws.proofs.Changes.{Changes, frames_if, sent}
use Rattle.world_laws.proofs.Sends.{frame_if, frames_with}
use Rattle.bound_laws.specs.Bounded.{SendIsBounded, StepIsBounded}
use Rattle.run_laws.proofs.Runs.{worlds_have_the_invariant_lemma}
use Rattle.frame_laws.proofs.Reachable.{frames_are_within_limits_lemma}
use Rattle.log_laws.specs.Logs.{Input}
use Rattle.log_laws.specs.Merge.{event_at}
use Rattle.turn_laws.specs.Laws.{GoesToAnother, SendsGoToOthers}
use Rattle.turn_laws.proofs.Turns.{LeadsOn, reachable-more, taken_by, turn-leads}

-- ---- what was sent is on its way

sent-with : (to : ℕ) (frame : Frame) (sends : List (ℕ × Frame)) → Contains sends (to, frame)
    → Contains (frames_with to sends) frame
sent-with to frame [] there = absurd (contains-none (to, frame) there)
sent-with to frame (s ∷ sends) there =
    elim (contains-cases s sends (to, frame) there) [
      | inl same ↦
          Contains-append_left (frame_if (nat_eq to s.0) s.1) (frames_with to sends) frame
          (subst (λ x. Contains (frame_if (nat_eq to x.0) x.1) frame) (sym same)
          (subst (λ t. Contains (frame_if t frame) frame) (sym (eq-eqb to to refl)) (contains-first frame [])))
      | inr later ↦
          Contains-append_right (frame_if (nat_eq to s.0) s.1) (frames_with to sends) frame
          (sent-with to frame sends later)
    ]

sent-there : (p to : ℕ) (frame : Frame) (sends : List (ℕ × Frame)) → Contains sends (to, frame)
    → Contains (sent p sends to p) frame
sent-there p to frame sends there =
    subst (λ t. Contains (frames_if t (frames_with to sends)) frame) (sym (eq-eqb p p refl))
    (sent-with to frame sends there)

-- what holds of each element
all-of : {A : Type 0} (P : A → Type 0) (xs : List A) → ((x : A) → Contains xs x → P x) → AllByRecursion P xs
all-of P [] each = tt
all-of P (x ∷ xs) each =
    (each x (contains-first x xs), all-of P xs (λ y there. each y (contains-later x xs y there)))

-- ---- where it goes

module _ (script : Script) (sound : IsSoundScript script) (w : World) (p : ℕ) (input : Input) (s : Step)
    (run : IsReachableWorld script w) (l : LeadsOn script w p input s) where
  next-reachable : IsReachableWorld script l.next
  next-reachable = reachable-more script w l.next (event_at p input) run l.enabled l.steps

  is-there : (send : ℕ × Frame) → Contains s.sends send → Contains (frames_to l.next send.0 p) send.1
  is-there send there =
      let c : Changes script p w l.next s.node (taken_by input) s.sends s.entries = l.changes
      in subst (λ fs. Contains fs send.1) (sym (c.after send.0 p))
      (Contains-append_right (c.left send.0 p) (sent p s.sends send.0 p) send.1
      (sent-there p send.0 send.1 s.sends there))

  not-itself : (send : ℕ × Frame) → Contains s.sends send → send.0 ≡ p → ⊥
  not-itself send there same =
      let i : HasInvariant script l.next = worlds_have_the_invariant_lemma script l.next sound next-reachable
      in let h : Holds script l.next [] i.beside = i.holds
      in let fit : FramesFit script (is_born_in l.next) (frames_to l.next) = h.frames_fit
      in contains-none send.1
      (subst (λ fs. Contains fs send.1) (fit.none_to_itself p)
      (subst (λ to. Contains (frames_to l.next to p) send.1) same (is-there send there)))

  goes : (send : ℕ × Frame) → Contains s.sends send → GoesToAnother script p send
  goes send there =
      let b : StepIsBounded script s = l.bounded
      in let bounded : SendIsBounded script send =
      All-contains (SendIsBounded script) s.sends send
      (All-from_recursion (SendIsBounded script) s.sends b.sends) there
      in let receiver : IsNode script send.0 = bounded.receiver
      in record {
        receiver = record { low = receiver.low; high = receiver.high };
        other = not-itself send there;
        within =
            frames_are_within_limits_lemma script l.next sound next-reachable send.0 p send.1 (is-there send there);
      }

  all-go : AllByRecursion (GoesToAnother script p) s.sends
  all-go = all-of (GoesToAnother script p) s.sends goes

-- a turn sends to other nodes, within the limits
pub sends_go_to_others_lemma : SendsGoToOthers
sends_go_to_others_lemma script w p n input s sound t turned =
    all-go script sound w p input s t.reachable (turn-leads script sound w p n input s t turned)
