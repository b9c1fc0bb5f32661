-- What is served on a body where callers wait, as calls at once in turn.
use Rattle.std.proofs.Common.{◌≡◌, ◌∙◌, Bool, List, [], ◌∷◌, ◌++◌, Option, sym, ap, subst, inl, inr}
use Rattle.std.specs.Prelude.{Contains}
use Rattle.std.specs.List.{flat_map}
use Rattle.pico_base.specs.declared.numbers.Name.{Name}
use Rattle.pico_base.specs.declared.reply.Reply.{Reply}
use Rattle.number_maps.proofs.Order.{eq-same}
use Rattle.kernel_model.specs.Row.{wait}
use Rattle.waiting_model.specs.declared.callers.Waiting.{Waiting}
use Rattle.waiting_model.specs.declared.callers.Wake.{Wake}
use Rattle.waiting_model.specs.Waiters.{wake}
use Rattle.node_model.specs.Awaiting.{Applied, on_whole}
use Rattle.node_model.specs.Bodies.{Body, bare, waiters_of}
use Rattle.serve_laws.specs.Served.{DoLines, Line, ServingIsInLine, WaitAt, line, line_if, lines_of, own_line, woken_lines}
use Rattle.serve_laws.proofs.Rounds.{Rounds, contains-cases, contains-none, contains-without, one-apart, without}
use Rattle.serve_laws.proofs.Serving.{ServesSo, Parks, Replies, serves-so}

-- ---- the lines of the woken

-- by whom each of these is found
abbrev Known : List Waiting → List Waiting → Type 0
Known all ws =
    (v : Waiting) → Contains ws v → (reply : Reply)
    → woken_lines all (wake v reply) ≡ line v.pid v.call reply ∷ []

known-itself : (name : Name) (ws : List Waiting) → WaitAt name ws → Known ws ws
known-itself name [] h v among reply = absurd (contains-none v among)
known-itself name (w ∷ ws) h v among reply =
    elim (contains-cases w ws v among) [
      | inl first ↦
          subst (λ (u : Waiting). woken_lines (w ∷ ws) (wake u reply) ≡ line u.pid u.call reply ∷ []) first
          (ap (λ (b : Bool). line_if b w (wake w reply) (woken_lines ws (wake w reply))) (eq-same w.pid))
      | inr later ↦
          ap (λ (b : Bool). line_if b w (wake v reply) (woken_lines ws (wake v reply)))
          (one-apart w.pid ws v h.2 later)
          ∙ known-itself name ws h.3 v later reply
    ]

lines-of-rounds : (name : Name) (all : List Waiting) (now : Body) (ws : List Waiting) (wakes : List Wake) (last : Body)
    (left : List Waiting) → Known all ws → Rounds name now ws wakes last left
    → DoLines name now (flat_map (woken_lines all) wakes) last
lines-of-rounds name all now ws [] last left known h = h.0
lines-of-rounds name all now ws (w ∷ wakes) last left known h =
    let is : woken_lines all w ≡ line h.waiter.pid h.waiter.call w.reply ∷ [] =
    ap (woken_lines all) h.is ∙ known h.waiter h.among w.reply
    in subst (λ (ls : List Line). DoLines name now (ls ++ flat_map (woken_lines all) wakes) last) (sym is) (
      h.next,
      h.does,
      lines-of-rounds name all h.next (without h.waiter.pid ws) wakes last left
          (λ v among reply. known v (contains-without h.waiter.pid ws v among) reply) h.rest,
    )

-- the caller's own call, if it needn't wait, and then those of the woken
in-line : (name : Name) (body : Body) (who : Waiting) (d : Applied Body) → WaitAt name (waiters_of body)
    → ServesSo name body who d → DoLines name (bare body) (lines_of body who d) (bare d.left)
in-line name body who d wait (Parks none nobody same waits) =
    subst (λ (own : Option Reply). DoLines name (bare body)
    (own_line who own ++ flat_map (woken_lines (waiters_of body)) d.wakes) (bare d.left)) (sym none)
    (subst (λ (wakes : List Wake).
    DoLines name (bare body) (flat_map (woken_lines (waiters_of body)) wakes) (bare d.left)) (sym nobody) (sym same))
in-line name body who d wait (Replies reply own after does rounds) =
    subst (λ (o : Option Reply). DoLines name (bare body)
    (own_line who o ++ flat_map (woken_lines (waiters_of body)) d.wakes) (bare d.left)) (sym own) (
      after,
      does,
      lines-of-rounds name (waiters_of body) after (waiters_of body) d.wakes (bare d.left) (waiters_of d.left)
          (known-itself name (waiters_of body) wait) rounds,
    )

-- so it is served
pub serving-is-in-line : ServingIsInLine
serving-is-in-line name body who fits wait =
    in-line name body who (on_whole name body who) wait (serves-so name body who fits wait)
