-- Where processes are, as the code moves them and as a history has them.
use Rattle.std.proofs.Common.{◌≡◌, ◌∙◌, ℕ, ◌<◌, ◌+◌, [], ◌∷◌, ◌++◌, length, drop, Option, Some, refl, sym, ap, subst, get_or, append_assoc}
use Rattle.std.proofs.lemmas.List.{drop_more}
use Rattle.pico_base.specs.declared.call.Call.{Call}
use Rattle.pico_base.specs.declared.call.Call.TheVariants as calls
use Rattle.pico_base.specs.declared.reply.Reply.{Reply}
use Rattle.pico_base.specs.declared.reply.Reply.TheVariants as replies
use Rattle.pico_base.specs.declared.script.Script.{Script}
use Rattle.number_maps.specs.Maps.{Numbered, get, put}
use Rattle.number_maps.specs.Rising.{IsRising}
use Rattle.number_maps.proofs.LookUps.{put-greater}
use Rattle.number_maps.proofs.Rising.{Above, above-first, rising-rest}
use Rattle.kernel_model.specs.Fitting.{Place}
use Rattle.waiting_model.specs.Fitting.{Places, Progress, after_entry, after_fork, after_wake, after_woken}
use Rattle.posix_mq.specs.Followed.{forked_by, with_forked, moved_at}

-- a call that forks a process puts it among the others, and any other leaves them
pub forked : (script : Script) (places : Places) (parent : Place) (call : Call) (own : Option Reply)
    → with_forked places (forked_by script parent call own) ≡ after_fork script places parent call own
forked script places parent (calls.Fork block) (Some (replies.Num child)) = refl
forked script places parent call own = refl

-- what is written back at a process's number: that process after its entry
pub move-lands : (ps : Places) (n pid : ℕ) (call : Call) (own : Option Reply) (v w : Progress) → n ≡ pid
    → get ps n ≡ Some v → w ≡ after_entry call own v → put ps n w ≡ moved_at ps pid call own (get ps pid)
move-lands ps n pid call own v w same there is = rw (← same, there) (ap (put ps n) is)

-- and that process once it is woken
pub wake-lands : (ps : Places) (n pid : ℕ) (reply : Reply) (v w : Progress) → n ≡ pid → get ps n ≡ Some v
    → w ≡ after_wake reply v → put ps n w ≡ after_woken ps (pid, reply)
wake-lands ps n pid reply v w same there is = rw (← same, there) (ap (put ps n) is)

-- the number that follows in a rising list is greater than those before it
below : (n : ℕ) (before : Numbered ℕ) (e : ℕ × ℕ) (rest : Numbered ℕ) → Above n (before ++ e ∷ rest) → n < e.0
below n [] e rest above = above.0
below n (b ∷ before) e rest above = below n before e rest above.1

-- an entry that is put behind lower ones stands at the end
pub put-last : (before : Numbered ℕ) (k v : ℕ) (rest : Numbered ℕ) → IsRising (before ++ (k, v) ∷ rest)
    → put before k v ≡ before ++ (k, v) ∷ []
put-last [] k v rest rising = refl
put-last (b ∷ before) k v rest rising =
    put-greater b before k v (below b.0 before (k, v) rest (above-first b (before ++ (k, v) ∷ rest) rising))
    ∙ ap (λ (es : Numbered ℕ). b ∷ es) (put-last before k v rest (rising-rest b (before ++ (k, v) ∷ rest) rising))

-- one entry more of a list that rises is copied
pub copied : (es copy new : Numbered ℕ) (i : ℕ) (d : ℕ × ℕ) → IsRising es → i < length es → copy ++ drop i es ≡ es
    → new ≡ put copy (get_or es i d).0 (get_or es i d).1 → new ++ drop (i + 1) es ≡ es
copied es copy new i d rising within so_far next =
    let e : ℕ × ℕ = get_or es i d in
    let whole : copy ++ e ∷ drop (i + 1) es ≡ es =
    ap (λ (r : Numbered ℕ). copy ++ r) (sym (drop_more es i d within)) ∙ so_far in
    let rise : IsRising (copy ++ e ∷ drop (i + 1) es) =
    subst (λ (all : Numbered ℕ). IsRising all) (sym whole) rising in
    ap (λ (c : Numbered ℕ). c ++ drop (i + 1) es) (next ∙ put-last copy e.0 e.1 (drop (i + 1) es) rise)
    ∙ append_assoc copy (e ∷ []) (drop (i + 1) es) ∙ whole
