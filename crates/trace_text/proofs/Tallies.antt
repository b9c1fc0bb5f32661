-- A tally of more entries.
use Rattle.std.proofs.Common.{◌≡◌, ◌∙◌, ℕ, ◌+◌, Bool, cond, List, [], ◌∷◌, ◌++◌, length, count_by, take, get_or, refl, sym, ap, ◌<◌, append_assoc}
use Rattle.std.specs.List.{fold}
use Rattle.std.proofs.lemmas.List.{length-append, take_more}
use Rattle.std.proofs.lemmas.List.Sums.{sum_by_push}
use Rattle.pico_base.specs.declared.call.Call.{Call}
use Rattle.pico_base.specs.declared.reply.Entry.{Entry}
use Rattle.pico_base.specs.declared.reply.Outcome.{Outcome}
use Rattle.kernel_model.specs.Trace.{is_fork, is_not_ready_reply, is_refused_reply, replies_where}
use Rattle.trace_text.specs.Totals.{Counts, counts_of, tally_of, with_made, with_entry}

fold-push : (f : ℕ → Entry → ℕ) (n : ℕ) (es : List Entry) (e : Entry) → fold f n (es ++ e ∷ []) ≡ f (fold f n es) e
fold-push f n [] e = refl
fold-push f n (x ∷ xs) e = fold-push f (f n x) xs e

count-push : (p : Entry → Bool) (es : List Entry) (e : Entry)
    → count_by p (es ++ e ∷ []) ≡ count_by p es + cond (p e) 1 0
count-push p es e = fold-push (λ n x. n + cond (p x) 1 0) 0 es e

-- one more entry is one more in the history
pub counts-with_entry : (before : List Entry) (e : Entry)
    → with_entry (counts_of before) e ≡ counts_of (before ++ e ∷ [])
counts-with_entry before e =
    rw (
      length-append before (e ∷ []),
      count-push (λ (x : Entry). is_fork x.call) before e,
      sum_by_push (λ (x : Entry). replies_where is_not_ready_reply x.outcome) before e,
      sum_by_push (λ (x : Entry). replies_where is_refused_reply x.outcome) before e,
    ) refl

pub tally-with_entry : (before : List Entry) (e : Entry) → with_entry (tally_of before) e ≡ tally_of (before ++ e ∷ [])
unfolding tally_of
tally-with_entry before e = counts-with_entry before e

-- an entry is counted by its call and its outcome
pub tally-made : (before : List Entry) (e : Entry) (call : Call) (outcome : Outcome) (old new : Counts)
    → e.call ≡ call → e.outcome ≡ outcome → old ≡ tally_of before → new ≡ with_made old call outcome
    → new ≡ tally_of (before ++ e ∷ [])
tally-made before e call outcome old new c o counted more =
    more ∙ ap (λ (x : Counts). with_made x call outcome) counted ∙ ap (with_made (tally_of before) call) (sym o)
    ∙ ap (λ (x : Call). with_made (tally_of before) x e.outcome) (sym c) ∙ tally-with_entry before e

-- the entries up to one are counted, and then that one
pub tally-take : (before entries : List Entry) (i : ℕ) (e : Entry) (so_far new : Counts) → i < length entries
    → e ≡ get_or entries i e → so_far ≡ tally_of (before ++ take i entries) → new ≡ with_entry so_far e
    → new ≡ tally_of (before ++ take (i + 1) entries)
tally-take before entries i e so_far new within at counted more =
    let longer : before ++ take i entries ++ e ∷ [] ≡ before ++ take (i + 1) entries =
    append_assoc before (take i entries) (e ∷ [])
    ∙ ap (λ (x : Entry). before ++ (take i entries ++ x ∷ [])) at
    ∙ ap (λ (es : List Entry). before ++ es) (sym (take_more entries i e within)) in
    more ∙ ap (λ (c : Counts). with_entry c e) counted ∙ tally-with_entry (before ++ take i entries) e
    ∙ ap tally_of longer
