-- Used numbers stay used, and what is gone stays gone.
use Rattle.std.proofs.Common.{◌≡◌, ◌≢◌, ℕ, true, List, Option, Some, None, refl, ap, sym, subst, ◌∙◌, inl, inr}
use Rattle.std.specs.Prelude.{is_some}
use Rattle.std.proofs.lemmas.Bool.{cases_eq}
use Rattle.number_maps.specs.Maps.{Numbered, get, put, without, is_used, used_with}
use Rattle.kernel_model.specs.Row.{Alive, Spent}
use Rattle.kernel_model.specs.Queue.{Queue}
use Rattle.kernel_model.specs.SemaphoreSet.{SemaphoreSet}
use Rattle.kernel_model.specs.QueueCalls.{remove_queue}
use Rattle.kernel_model.specs.SetCalls.{remove_set}
use Rattle.kernel_model.specs.Transition.{finish_call}
use Rattle.pico_base.specs.declared.call.Call.TheVariants.{MsgRmid, SemRmid}
use Rattle.pico_base.specs.declared.reply.Reply.{Reply}
use Rattle.pico_base.specs.declared.reply.Reply.TheVariants.{Num, Fail}
use Rattle.pico_base.specs.declared.reply.Errno.{Errno}
use Rattle.pico_base.specs.declared.reply.Errno.TheVariants.{Einval}
use Rattle.kernel_model.specs.Kernel.{Kernel, opening, living_at, with_alive}
use Rattle.kernel_model.specs.Effect.{Effect, on_named, is_fresh}
use Rattle.kernel_laws.specs.Numbers.{UsedNumbersStay, RemovedQueuesStayRemoved, RemovedSetsStayRemoved, QueueRemovalsLast, SetRemovalsLast}
use Rattle.kernel_laws.proofs.Plain.{from_some, not_some, not_true, by_test}
use Rattle.number_maps.proofs.LookUps.{get-put-other, get-without-same, get-without-other}
use Rattle.number_maps.proofs.Sets.{used-stays}
use Rattle.kernel_laws.proofs.Tables.{fresh-unused}
use Rattle.kernel_laws.proofs.Moves.{Moves}
use Rattle.kernel_laws.proofs.Steps.{step}
use Rattle.kernel_laws.proofs.Histories.{Kept, kept-along}
use Rattle.kernel_laws.proofs.QueueLaws.{Queues, queues-kept, queues-opening}
use Rattle.kernel_laws.proofs.SetLaws.{Sets, sets-kept, sets-opening}

abbrev Holds : List ℕ → List ℕ → Type 0
Holds first used = (q : ℕ) → is_used first q ≡ true → is_used used q ≡ true

holds-more : (first used : List ℕ) (n : ℕ) → Holds first used → Holds first (used_with used n)
holds-more first used n h q u = used-stays used n q (h q u)

record Grown (first : Kernel) (processes queues sets : List ℕ) : Type 0 where
  of_processes : Holds first.used_processes processes
  of_queues : Holds first.used_queues queues
  of_sets : Holds first.used_sets sets

abbrev Grows : Kernel → Kernel → Type 0
Grows first k = Grown first k.used_processes k.used_queues k.used_sets

with_process : (first k : Kernel) (n : ℕ) → Grows first k
    → Grown first (used_with k.used_processes n) k.used_queues k.used_sets
with_process first k n g =
    record {
      of_processes = holds-more first.used_processes k.used_processes n g.of_processes;
      of_queues =
          g.of_queues;
      of_sets = g.of_sets;
    }

with_queue : (first k : Kernel) (n : ℕ) → Grows first k
    → Grown first k.used_processes (used_with k.used_queues n) k.used_sets
with_queue first k n g =
    record {
      of_processes = g.of_processes;
      of_queues =
          holds-more first.used_queues k.used_queues n g.of_queues;
      of_sets = g.of_sets;
    }

with_set : (first k : Kernel) (n : ℕ) → Grows first k
    → Grown first k.used_processes k.used_queues (used_with k.used_sets n)
with_set first k n g =
    record {
      of_processes = g.of_processes;
      of_queues = g.of_queues;
      of_sets =
          holds-more first.used_sets k.used_sets n g.of_sets;
    }

grows-moves : (first k : Kernel) (pid : ℕ) (a : Alive) (n : ℕ) → Grows first k → Moves (Grows first) k pid a n
grows-moves first k pid a n g =
    record {
      same = g;
      forks = λ f. with_process first k n g;
      ends = λ ending. g;
      acts = λ s act h. g;
      masks = λ how set. g;
      raises_own = λ target s h. g;
      raises_other = λ other target s h. g;
      reaps = λ which child ending h. g;
      makes_queue = λ f. with_queue first k n g;
      binds_queue = λ key f. with_queue first k n g;
      sends = λ id class text q next l h. g;
      receives = λ id class size noerror q r l h. g;
      limits = λ id qbytes q next l h. g;
      removes_queue = λ id. g;
      makes_set = λ count set h f. with_set first k n g;
      binds_set = λ key count set h f. with_set first k n g;
      operates = λ id steps set next l h. g;
      sets_one = λ id num value set next l h. g;
      fills = λ id values set next l h. g;
      removes_set = λ id. g;
    }

grows-kept : (first : Kernel) → Kept (Grows first)
grows-kept first = record {
  moves = λ k pid call n next outcome s g. grows-moves first k pid s.alive n g;
  finishes =
      λ pid k a g l d. g;
}

-- a used number stays used
pub used_numbers_stay_lemma : UsedNumbersStay
used_numbers_stay_lemma k last entries r n =
    let g : Grows k last =
    kept-along (Grows k) (grows-kept k) entries k last r
    (record { of_processes = λ q u. u; of_queues = λ q u. u; of_sets = λ q u. u })
    in record { processes = g.of_processes n; queues = g.of_queues n; sets = g.of_sets n }

-- a number that was used and leads to nothing
abbrev Gone : {V : Type 0} → List ℕ → Numbered V → ℕ → Type 0
Gone used things id = (is_used used id ≡ true) × (get things id ≡ None)

gone-change : {V : Type 0} (used : List ℕ) (things : Numbered V) (id other : ℕ) (v w : V) → Gone used things id
    → get things other ≡ Some v
    → Gone used (put things other w) id
gone-change used things id other v w g l =
    let ne : id ≢ other = λ same. not_some v (sym g.1 ∙ (ap (λ r. get things r) same ∙ l))
    in (g.0, get-put-other things other w id ne ∙ g.1)

gone-make : {V : Type 0} (used : List ℕ) (things : Numbered V) (id n : ℕ) (w : V) → Gone used things id
    → is_fresh used n ≡ true
    → Gone (used_with used n) (put things n w) id
gone-make used things id n w g f =
    let ne : id ≢ n = λ same. not_true (sym (fresh-unused used n f) ∙ (ap (λ r. is_used used r) (sym same) ∙ g.0))
    in (used-stays used n id g.0, get-put-other things n w id ne ∙ g.1)

gone-remove : {V : Type 0} (used : List ℕ) (things : Numbered V) (id other : ℕ) → Gone used things id
    → Gone used (without things other) id
gone-remove used things id other g =
    elim (cases_eq id other) [
      | inl same ↦ (g.0, ap (λ r. get (without things other) r) same ∙ get-without-same things other)
      | inr ne ↦ (g.0, get-without-other things other id ne ∙ g.1)
    ]

abbrev GoneQueue : ℕ → Kernel → Type 0
GoneQueue id k = Gone k.used_queues k.queues id

abbrev GoneSet : ℕ → Kernel → Type 0
GoneSet id k = Gone k.used_sets k.sets id

gone_queue-moves : (gone : ℕ) (k : Kernel) (pid : ℕ) (a : Alive) (n : ℕ) → GoneQueue gone k
    → Moves (GoneQueue gone) k pid a n
gone_queue-moves gone k pid a n g =
    record {
      same = g;
      forks = λ f. g;
      ends = λ ending. g;
      acts = λ s act h. g;
      masks = λ how set. g;
      raises_own = λ target s h. g;
      raises_other = λ other target s h. g;
      reaps = λ which child ending h. g;
      makes_queue = λ f. gone-make k.used_queues k.queues gone n _ g f;
      binds_queue = λ key f. gone-make k.used_queues k.queues gone n _ g f;
      sends = λ id class text q next l h. gone-change k.used_queues k.queues gone id q next g l;
      receives = λ id class size noerror q r l h. gone-change k.used_queues k.queues gone id q r.queue g l;
      limits = λ id qbytes q next l h. gone-change k.used_queues k.queues gone id q next g l;
      removes_queue = λ id. gone-remove k.used_queues k.queues gone id g;
      makes_set = λ count set h f. g;
      binds_set = λ key count set h f. g;
      operates = λ id steps set next l h. g;
      sets_one = λ id num value set next l h. g;
      fills = λ id values set next l h. g;
      removes_set = λ id. g;
    }

gone_queue-kept : (gone : ℕ) → Kept (GoneQueue gone)
gone_queue-kept gone =
    record {
      moves = λ k pid call n next outcome s g. gone_queue-moves gone k pid s.alive n g;
      finishes =
          λ pid k a g l d. g;
    }

gone_set-moves : (gone : ℕ) (k : Kernel) (pid : ℕ) (a : Alive) (n : ℕ) → GoneSet gone k → Moves (GoneSet gone) k pid a n
gone_set-moves gone k pid a n g =
    record {
      same = g;
      forks = λ f. g;
      ends = λ ending. g;
      acts = λ s act h. g;
      masks = λ how set. g;
      raises_own = λ target s h. g;
      raises_other = λ other target s h. g;
      reaps = λ which child ending h. g;
      makes_queue = λ f. g;
      binds_queue = λ key f. g;
      sends = λ id class text q next l h. g;
      receives = λ id class size noerror q r l h. g;
      limits = λ id qbytes q next l h. g;
      removes_queue = λ id. g;
      makes_set = λ count set h f. gone-make k.used_sets k.sets gone n set g f;
      binds_set = λ key count set h f. gone-make k.used_sets k.sets gone n set g f;
      operates = λ id steps set next l h. gone-change k.used_sets k.sets gone id set next g l;
      sets_one = λ id num value set next l h. gone-change k.used_sets k.sets gone id set next g l;
      fills = λ id values set next l h. gone-change k.used_sets k.sets gone id set next g l;
      removes_set = λ id. gone-remove k.used_sets k.sets gone id g;
    }

gone_set-kept : (gone : ℕ) → Kept (GoneSet gone)
gone_set-kept gone = record {
  moves = λ k pid call n next outcome s g. gone_set-moves gone k pid s.alive n g;
  finishes =
      λ pid k a g l d. g;
}

-- a queue that was removed doesn't come back
pub removed_queues_stay_removed_lemma : RemovedQueuesStayRemoved
removed_queues_stay_removed_lemma first second third p id there gone =
    let t = kept-along Queues queues-kept p.to_first opening first p.opens queues-opening
    in let u = (used_numbers_stay_lemma first second p.to_second p.goes id).queues (t.used_at id there)
    in (kept-along (GoneQueue id) (gone_queue-kept id) p.to_third second third p.ends (u, gone)).1

-- nor does a set
pub removed_sets_stay_removed_lemma : RemovedSetsStayRemoved
removed_sets_stay_removed_lemma first second third p id there gone =
    let t = kept-along Sets sets-kept p.to_first opening first p.opens sets-opening
    in let u = (used_numbers_stay_lemma first second p.to_second p.goes id).sets (t.used_at id there)
    in (kept-along (GoneSet id) (gone_set-kept id) p.to_third second third p.ends (u, gone)).1

fail_not_num : {B : Type 0} (e : Errno) → Fail e ≡ Num 0 → B
fail_not_num e h = cc

-- a removal by an entry: what was there had a used number, and is gone
fail_num : {B : Type 0} (e : Errno) (o : Option Reply) → Some (Fail e) ≡ o → o ≡ Some (Num 0) → B
fail_num e o h g = let f : Fail e ≡ Num 0 = from_some (Fail e) (Num 0) (h ∙ g) in fail_not_num e f

gone_named : {V : Type 0} (k : Kernel) (things : Numbered V) (used : List ℕ) (id : ℕ) (f : V → Effect) (P : Kernel
    → Type 0) (own : Option Reply)
    → (found : Option V) → get things id ≡ found → Some (on_named k found f).reply ≡ own → own ≡ Some (Num 0)
    → ((v : V) → get things id ≡ Some v → P (f v).kernel) → P (on_named k found f).kernel
gone_named k things used id f P own None e says is h = fail_num Einval own says is
gone_named k things used id f P own (Some v) e says is h = h v e

removed_queue_gone : (k : Kernel) (id : ℕ) (q : Queue) → Queues k → get k.queues id ≡ Some q
    → GoneQueue id (remove_queue k id).kernel
removed_queue_gone k id q t l = (t.used_at id (ap is_some l), get-without-same k.queues id)

removed_set_gone : (k : Kernel) (id : ℕ) (s : SemaphoreSet) → Sets k → get k.sets id ≡ Some s
    → GoneSet id (remove_set k id).kernel
removed_set_gone k id s t l = (t.used_at id (ap is_some l), get-without-same k.sets id)

-- the end of an entry changes no queue and no set
gone_queue-finished : (gone : ℕ) (k : Kernel) (pid : ℕ) (found : Option Alive) → GoneQueue gone k
    → GoneQueue gone (finish_call k pid found)
gone_queue-finished gone k pid None g = g
gone_queue-finished gone k pid (Some a) g =
    by_test (GoneQueue gone) (is_some a.row.signals.doom) (with_alive k pid (record a { allowance = Spent })) k (λ t. g)
    (λ t. g)

gone_set-finished : (gone : ℕ) (k : Kernel) (pid : ℕ) (found : Option Alive) → GoneSet gone k
    → GoneSet gone (finish_call k pid found)
gone_set-finished gone k pid None g = g
gone_set-finished gone k pid (Some a) g =
    by_test (GoneSet gone) (is_some a.row.signals.doom) (with_alive k pid (record a { allowance = Spent })) k (λ t. g)
    (λ t. g)

reply-is : (r s : Effect) (own : Option Reply) → r ≡ s → Some r.reply ≡ own → Some s.reply ≡ own
reply-is r s own e h = subst (λ (x : Effect). Some x.reply ≡ own) e h

-- a successful IPC_RMID removes the queue
pub queue_removals_last_lemma : QueueRemovalsLast
queue_removals_last_lemma k next last pid id n outcome entries r t is h =
    let s = step k pid (MsgRmid id) n next outcome t
    in let table = kept-along Queues queues-kept r.0 opening k r.1 queues-opening
    in let e : on_named k (get k.queues id) (λ _. remove_queue k id) ≡ s.result =
    from_some (on_named k (get k.queues id) (λ _. remove_queue k id)) s.result s.gives
    in let says = reply-is s.result (on_named k (get k.queues id) (λ _. remove_queue k id)) outcome.own (sym e) s.says
    in let gone = gone_named k k.queues k.used_queues id (λ _. remove_queue k id) (GoneQueue id) outcome.own
    (get k.queues id) refl says is
    (λ q l. removed_queue_gone k id q table l)
    in let after : GoneQueue id s.result.kernel = subst (λ (x : Effect). GoneQueue id x.kernel) e gone
    in let there : GoneQueue id next =
    subst (GoneQueue id) s.leads (gone_queue-finished id s.result.kernel pid (living_at s.result.kernel pid) after)
    in (kept-along (GoneQueue id) (gone_queue-kept id) entries next last h there).1

-- a successful IPC_RMID removes the set
pub set_removals_last_lemma : SetRemovalsLast
set_removals_last_lemma k next last pid id n outcome entries r t is h =
    let s = step k pid (SemRmid id) n next outcome t
    in let table = kept-along Sets sets-kept r.0 opening k r.1 sets-opening
    in let e : on_named k (get k.sets id) (λ _. remove_set k id) ≡ s.result =
    from_some (on_named k (get k.sets id) (λ _. remove_set k id)) s.result s.gives
    in let says = reply-is s.result (on_named k (get k.sets id) (λ _. remove_set k id)) outcome.own (sym e) s.says
    in let gone = gone_named k k.sets k.used_sets id (λ _. remove_set k id) (GoneSet id) outcome.own
    (get k.sets id) refl says is
    (λ q l. removed_set_gone k id q table l)
    in let after : GoneSet id s.result.kernel = subst (λ (x : Effect). GoneSet id x.kernel) e gone
    in let there : GoneSet id next =
    subst (GoneSet id) s.leads (gone_set-finished id s.result.kernel pid (living_at s.result.kernel pid) after)
    in (kept-along (GoneSet id) (gone_set-kept id) entries next last h there).1
