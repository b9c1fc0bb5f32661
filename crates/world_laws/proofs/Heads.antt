-- The frame at the head of a stream: what it may be, and what of its stream stays once it is taken.
use Rattle.std.proofs.Common.{◌≡◌, ◌≢◌, ◌⊎◌, ℕ, Bool, true, false, ◌&&◌, cond, List, [], ◌∷◌, ◌++◌, filter, Contains, refl, ap, sym, subst, ◌∙◌, inl, inr}
use Rattle.std.proofs.lemmas.List.Elements.{Contains-append_left, Contains-push}
use Rattle.pico_base.specs.declared.reply.Entry.{Entry}
use Rattle.pico_base.specs.declared.script.Script.{Script}
use Rattle.rpc_frame.specs.declared.frame.Frame.{Frame}
use Rattle.world_model.specs.Node.{Node}
use Rattle.world_model.specs.World.{World}
use Rattle.world_laws.specs.Sights.{frames_to}
use Rattle.world_laws.specs.Invariant.{MayBe, FramesFit}
use Rattle.world_laws.proofs.Sends.{frame_if}
use Rattle.world_laws.proofs.Changes.{Changes, frames_if, taken, IsListMap, made-before}
use Rattle.world_laws.proofs.Steps.{Heads, frames-low, taken-here, taken-not-to, taken-not-from}

module _ (script : Script) (w : World) (p q : ℕ) (frame : Frame) (rest : List Frame)
    (h : Heads script w p q frame rest) where
  -- the stream as sights show it
  pub head-is : frames_to w p q ≡ frame ∷ rest
  head-is = frames-low w p q h.low h.low_from ∙ h.head

  -- its frame is on its way
  pub head-there : Contains (frames_to w p q) frame
  head-there =
      subst (λ fs. Contains fs frame) (sym head-is)
      (Contains-append_left (frame ∷ []) rest frame (Contains-push [] frame))

  -- so it may be there
  pub head-may-be : (born : ℕ → Bool) → FramesFit script born (frames_to w) → MayBe script born p q frame
  head-may-be born fit = fit.may_be p q frame head-there

  -- no node takes a frame from itself
  pub head-from-another : (born : ℕ → Bool) → FramesFit script born (frames_to w) → q ≢ p
  head-from-another born fit e =
      not-empty (sym head-is ∙ ap (frames_to w p) e ∙ fit.none_to_itself p)
    where
      not-empty : frame ∷ rest ≡ [] → ⊥
      not-empty g = cc

-- ---- one frame taken

module _ (script : Script) (p q : ℕ) (w w' : World) (n : Node) (frame : Frame) (sends : List (ℕ × Frame))
    (entries : List Entry) (c : Changes script p w w' n ((q, frame) ∷ []) sends entries) where
  -- of its own stream the rest stays
  pub rest-stays : {A : Type 0} (f : ℕ → ℕ → List Frame → List A) → ((to sender : ℕ) → IsListMap (f to sender))
      → f p q (frames_to w p q) ≡ f p q (frame ∷ []) ++ f p q (c.left p q)
  rest-stays f m =
      made-before script p w w' n ((q, frame) ∷ []) sends entries c f m p q
      ∙ ap (λ fs. f p q fs ++ f p q (c.left p q)) (taken-here p q frame)

  -- of every other all stays
  pub others-stay : {A : Type 0} (f : ℕ → ℕ → List Frame → List A) → ((to sender : ℕ) → IsListMap (f to sender))
      → (to sender : ℕ) → (to ≢ p) ⊎ (sender ≢ q) → f to sender (c.left to sender) ≡ f to sender (frames_to w to sender)
  others-stay f m to sender d =
      let g : IsListMap (f to sender) = m to sender
      in sym (made-before script p w w' n ((q, frame) ∷ []) sends entries c f m to sender
      ∙ ap (λ fs. f to sender fs ++ f to sender (c.left to sender)) (not-taken d)
      ∙ ap (λ xs. xs ++ f to sender (c.left to sender)) g.of_none)
    where
      not-taken : (to ≢ p) ⊎ (sender ≢ q) → taken p ((q, frame) ∷ []) to sender ≡ []
      not-taken (inl d) = taken-not-to p to sender ((q, frame) ∷ []) d
      not-taken (inr d) = taken-not-from p to q sender frame d

-- ---- one frame sent

-- what a filter that keeps the frame makes of it, and one that drops it
pub kept-of-sent : (test : Frame → Bool) (g : Frame) → test g ≡ true → (to sender : Bool)
    → filter test (frames_if sender (frame_if to g ++ [])) ≡ cond (to && sender) (g ∷ []) []
kept-of-sent test g keeps true true = ap (λ b. cond b (g ∷ []) []) keeps
kept-of-sent test g keeps true false = refl
kept-of-sent test g keeps false true = refl
kept-of-sent test g keeps false false = refl
