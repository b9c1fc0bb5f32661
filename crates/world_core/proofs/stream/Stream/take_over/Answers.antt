use Rattle.std.proofs.Common.{◌≡◌, List, [], ◌∷◌, length, map, refl, ap, ◌∙◌, ℕ, arith}
use Rattle.rpc_frame.specs.declared.frame.Frame.{Frame}
use Rattle.world_core.specs.Stream.{frame_of, frames_of}
use Rattle.world_core.proofs.Streams.{length-frames}
use Rattle.world_core.proofs.stream.Stream.take_over.Goals as goal

taken-over : (sends front back : List (ℕ × Frame)) → length sends ≡ 1 → frames_of front back ≡ []
    → frames_of sends back ≡ map frame_of sends
taken-over [] front back one none = absurd (omega arith)
taken-over (f ∷ g ∷ fs) front back one none = absurd (omega arith)
taken-over (f ∷ []) front [] one none = refl
taken-over (f ∷ []) front (b ∷ bs) one none =
    absurd (let e = ap length none in omega (arith, length-frames front (b ∷ bs)))

emptied : (front back : List (ℕ × Frame)) → frames_of front back ≡ [] → front ≡ []
emptied [] back none = refl
emptied (f ∷ fs) back none = absurd (let e = ap length none in omega (arith, length-frames (f ∷ fs) back))

pub returns-clause-taken : goal.returns-clause-taken
returns-clause-taken c =
    rw c.swap.ensures.x_after
    (taken-over c.args.sends.now.items c.self.inside.front.items c.self.inside.back.items c.requires.one
    (c.self.view_is ∙ c.requires.empty))

pub returns-clause-emptied : goal.returns-clause-emptied
returns-clause-emptied c =
    rw c.swap.ensures.y_after
    (emptied c.self.inside.front.items c.self.inside.back.items (c.self.view_is ∙ c.requires.empty))
