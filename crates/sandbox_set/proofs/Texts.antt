-- The text of sandboxes, one after the other.
use Rattle.std.proofs.Common.{◌≡◌, ◌⊎◌, inl, inr, List, [], ◌∷◌, ◌++◌, append_assoc, append-nil, ℕ, refl, sym, ap, ◌∙◌}
use Rattle.pico_base.specs.declared.reply.Entry.{Entry}
use Rattle.sandbox_set.specs.declared.read.Sandbox.{Sandbox}
use Rattle.sandbox_set.specs.Text.{sandbox_text, boxes_text}

-- of one more sandbox
pub text_more : (sandbox : Sandbox) (boxes : List Sandbox) (journal : List Entry) (journals : List (List Entry))
    → boxes_text (sandbox ∷ boxes) (journal ∷ journals) ≡ sandbox_text sandbox journal ++ boxes_text boxes journals
unfolding boxes_text
text_more sandbox boxes journal journals = refl

-- of none
pub text_none : (boxes : List Sandbox) (journals : List (List Entry)) → (boxes ≡ []) ⊎ (journals ≡ [])
    → boxes_text boxes journals ≡ []
unfolding boxes_text
text_none boxes journals (inl e) = rw e refl
text_none [] journals (inr e) = refl
text_none (sandbox ∷ boxes) journals (inr e) = rw e refl

-- behind one more
pub text_turn : (out next : List ℕ) (sandbox : Sandbox) (boxes left : List Sandbox) (journal : List Entry)
    (journals left_journals : List (List Entry)) (whole : List ℕ) → out ++ boxes_text boxes journals ≡ whole
    → boxes ≡ sandbox ∷ left → journals ≡ journal ∷ left_journals → next ≡ out ++ sandbox_text sandbox journal
    → next ++ boxes_text left left_journals ≡ whole
text_turn out next sandbox boxes left journal journals left_journals whole so_far first second added =
    ap (λ xs. xs ++ boxes_text left left_journals) added
    ∙ append_assoc out (sandbox_text sandbox journal) (boxes_text left left_journals)
    ∙ ap (λ xs. out ++ xs) (sym (text_more sandbox left journal left_journals))
    ∙ ap (λ xs. out ++ boxes_text xs (journal ∷ left_journals)) (sym first)
    ∙ ap (λ xs. out ++ boxes_text boxes xs) (sym second)
    ∙ so_far

-- behind the last
pub text_end : (out : List ℕ) (boxes : List Sandbox) (journals : List (List Entry)) (whole : List ℕ)
    → out ++ boxes_text boxes journals ≡ whole → (boxes ≡ []) ⊎ (journals ≡ []) → out ≡ whole
text_end out boxes journals whole so_far none =
    sym (append-nil out) ∙ ap (λ xs. out ++ xs) (sym (text_none boxes journals none)) ∙ so_far
