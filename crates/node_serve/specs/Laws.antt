-- Under a name, bytes spell one body, and a body has one spelling.
use Rattle.std.proofs.Common.{◌≡◌, ◌∙◌, ℕ, zero, suc, length, arith, Bool, true, List, [], ◌∷◌, ◌++◌, take, drop, get_or, Option, Some, None, refl, sym, ap, IsTrue}
use Rattle.pico_base.specs.declared.numbers.Name.{Name}
use Rattle.pico_base.specs.declared.numbers.Name.TheVariants.{Proc, Msg, Sem}
use Rattle.pico_base.specs.declared.reply.Ending.{Ending as Ends}
use Rattle.pico_base.specs.declared.reply.Ending.TheVariants.{Exited, Killed}
use Rattle.pico_base.specs.declared.signal.Act.{Act}
use Rattle.pico_base.specs.declared.signal.PerSignal.{PerSignal}
use Rattle.pico_base.specs.declared.signal.Sig.{Sig}
use Rattle.signal_state.specs.Reading.{actions_from, set_at, counts_from, doom_from}
use Rattle.signal_state.specs.Spelling.{doom_byte, signal_bytes, HasBytes as HasSignalBytes}
use Rattle.signal_state.proofs.Bodies.{signal_bytes-length, actions-again, mask-again, pending-again, counts-again, last-again, doom-again}
use Rattle.fork_wait.specs.Spelling.{family_bytes, ending_bytes, HasBytes as HasFamilyBytes}
use Rattle.fork_wait.proofs.Bodies.{bytes_again}
use Rattle.sysv_msg.specs.Body as queues
use Rattle.sysv_msg.proofs.Bodies as queue_laws
use Rattle.sysv_sem.specs.Body as sets
use Rattle.sysv_sem.proofs.Bodies as set_laws
use Rattle.kernel_model.specs.Signals.{Signals}
use Rattle.kernel_model.specs.Row.{Family}
use Rattle.kernel_model.specs.Queue as kernel
use Rattle.kernel_model.specs.SemaphoreSet.{SemaphoreSet}
use Rattle.waiting_model.specs.Waiters.{Awaited}
use Rattle.node_serve.specs.declared.body.Row.{Row}
use Rattle.node_serve.specs.declared.body.Body.{Body}
use Rattle.node_serve.specs.declared.body.Body.TheVariants.{Living, Ended, Gone, Queue, Set, Removed}
use Rattle.node_serve.specs.Spelled.{IsRow, IsSpelled, suits}

pub spellings_are_one : (body : Body) (bytes other : List ℕ) → IsSpelled body bytes → IsSpelled body other
    → bytes ≡ other
spellings_are_one (Living row) [] other a b = absurd a
spellings_are_one (Living row) (x ∷ xs) [] a b = absurd b
spellings_are_one (Living row) (x ∷ xs) (y ∷ ys) a b =
    ap (λ (code : ℕ). code ∷ xs) (a.0 ∙ sym b.0) ∙ ap (λ (rest : List ℕ). y ∷ rest) (a.1.spelled ∙ sym b.1.spelled)
spellings_are_one (Ended ending) bytes other a b = a.1 ∙ sym b.1
spellings_are_one Gone bytes other a b = a ∙ sym b
spellings_are_one (Queue queue) bytes other a b = a.spelled ∙ sym b.spelled
spellings_are_one (Set set) bytes other a b = a.spelled ∙ sym b.spelled
spellings_are_one Removed bytes other a b = a ∙ sym b

-- ---- the parts of a body

some_is : {A : Type 0} (x y : A) → Some x ≡ Some y → x ≡ y
some_is x y h = cc

front_of : (s : List ℕ) (f : List ℕ) (n : ℕ) → length s ≡ n → take n (s ++ f) ≡ s
front_of [] f zero h = refl
front_of [] f (suc n) h = absurd (omega arith)
front_of (x ∷ s) f zero h = absurd (omega arith)
front_of (x ∷ s) f (suc n) h = ap (λ (xs : List ℕ). x ∷ xs) (front_of s f n (omega arith))

rest_of : (s : List ℕ) (f : List ℕ) (n : ℕ) → length s ≡ n → drop n (s ++ f) ≡ f
rest_of [] f zero h = refl
rest_of [] f (suc n) h = absurd (omega arith)
rest_of (x ∷ s) f zero h = absurd (omega arith)
rest_of (x ∷ s) f (suc n) h = rest_of s f n (omega arith)

pub row-front : (row : Row) (bytes : List ℕ) → IsRow row bytes → take 55 bytes ≡ signal_bytes row.signals
row-front row bytes is =
    ap (take 55) is.spelled
    ∙ front_of (signal_bytes row.signals) (family_bytes row.family) 55 (signal_bytes-length row.signals)

pub row-rest : (row : Row) (bytes : List ℕ) → IsRow row bytes → drop 55 bytes ≡ family_bytes row.family
row-rest row bytes is =
    ap (drop 55) is.spelled
    ∙ rest_of (signal_bytes row.signals) (family_bytes row.family) 55 (signal_bytes-length row.signals)

state : PerSignal Act → PerSignal Bool → PerSignal Bool → PerSignal ℕ → Option Sig → Signals
state actions mask pending handled doom =
    record { actions = actions; mask = mask; pending = pending; handled = handled; doom = doom }

one_state : (s t : Signals) → HasSignalBytes s → HasSignalBytes t → signal_bytes s ≡ signal_bytes t → s ≡ t
unfolding state
one_state s t hs ht e =
    let actions : s.actions ≡ t.actions = sym (actions-again s) ∙ ap actions_from e ∙ actions-again t
    in let mask : s.mask ≡ t.mask = sym (mask-again s) ∙ ap (λ (bs : List ℕ). set_at bs 10) e ∙ mask-again t
    in let pending : s.pending ≡ t.pending =
    sym (pending-again s) ∙ ap (λ (bs : List ℕ). set_at bs 12) e ∙ pending-again t
    in let handled : s.handled ≡ t.handled =
    sym (counts-again s hs.counts) ∙ ap counts_from e ∙ counts-again t ht.counts
    in let doom : s.doom ≡ t.doom =
    sym (doom-again s.doom) ∙ ap doom_from (sym (last-again s) ∙ ap (λ (bs : List ℕ). get_or bs 54 0) e ∙ last-again t)
    ∙ doom-again t.doom
    in ap (λ (x : PerSignal Act). state x s.mask s.pending s.handled s.doom) actions
    ∙ ap (λ (x : PerSignal Bool). state t.actions x s.pending s.handled s.doom) mask
    ∙ ap (λ (x : PerSignal Bool). state t.actions t.mask x s.handled s.doom) pending
    ∙ ap (λ (x : PerSignal ℕ). state t.actions t.mask t.pending x s.doom) handled
    ∙ ap (λ (x : Option Sig). state t.actions t.mask t.pending t.handled x) doom

one_family : (f g : Family) → HasFamilyBytes f → HasFamilyBytes g → family_bytes f ≡ family_bytes g → f ≡ g
one_family f g hf hg e =
    some_is f g (sym (bytes_again (family_bytes f) f refl hf) ∙ bytes_again (family_bytes f) g e hg)

row_with : Signals → Family → Row
row_with signals family = record { signals = signals; family = family }

one_row : (r q : Row) (bytes : List ℕ) → IsRow r bytes → IsRow q bytes → r ≡ q
unfolding row_with
one_row r q bytes a b =
    let signals : r.signals ≡ q.signals =
    one_state r.signals q.signals a.signals b.signals (sym (row-front r bytes a) ∙ row-front q bytes b)
    in let family : r.family ≡ q.family =
    one_family r.family q.family a.family b.family (sym (row-rest r bytes a) ∙ row-rest q bytes b)
    in ap (λ (x : Signals). row_with x r.family) signals ∙ ap (row_with q.signals) family

one_ending : (e f : Ends) → ending_bytes e ≡ ending_bytes f → e ≡ f
one_ending (Exited s) (Exited t) same = let status : s ≡ t = cc in ap Exited status
one_ending (Exited s) (Killed g) same = absurd (cc)
one_ending (Killed g) (Exited t) same = absurd (cc)
one_ending (Killed g) (Killed h) same =
    let numbers : doom_byte (Some g) ≡ doom_byte (Some h) = cc
    in some_is (Killed g) (Killed h)
    (ap killed_by (sym (doom-again (Some g)) ∙ ap doom_from numbers ∙ doom-again (Some h)))
  where
    killed_by : Option Sig → Option Ends
    killed_by None = None
    killed_by (Some g) = Some (Killed g)

one_queue : (p q : Awaited kernel.Queue) (bytes : List ℕ) → queues.IsBodyOf p bytes → queues.IsBodyOf q bytes → p ≡ q
one_queue p q bytes a b = queue_laws.one-queue bytes p q (queue_laws.body-again bytes p a) b

one_set : (p q : Awaited SemaphoreSet) (bytes : List ℕ) → sets.IsBodyOf p bytes → sets.IsBodyOf q bytes → p ≡ q
one_set p q bytes a b = set_laws.one_set bytes p q a b

-- ---- by the kind of name

process_once : (body other : Body) (bytes : List ℕ) (pid : ℕ) → suits body (Proc pid) ≡ true
    → suits other (Proc pid) ≡ true
    → IsSpelled body bytes → IsSpelled other bytes → body ≡ other
process_once (Living r) (Living q) [] pid f g a b = absurd a
process_once (Living r) (Living q) (x ∷ xs) pid f g a b = ap Living (one_row r q xs a.1 b.1)
process_once (Living r) other [] pid f g a b = absurd a
process_once body (Living r) [] pid f g a b = absurd b
process_once (Ended e) (Ended h) bytes pid f g a b =
    let same : 2 ∷ ending_bytes e ≡ 2 ∷ ending_bytes h = sym a.1 ∙ b.1
    in let endings : ending_bytes e ≡ ending_bytes h = cc
    in ap Ended (one_ending e h endings)
process_once Gone Gone bytes pid f g a b = refl
process_once body other bytes pid f g a b = absurd (cc)

queue_once : (body other : Body) (bytes : List ℕ) (id : ℕ) → suits body (Msg id) ≡ true → suits other (Msg id) ≡ true
    → IsSpelled body bytes → IsSpelled other bytes → body ≡ other
queue_once (Queue p) (Queue q) bytes id f g a b = ap Queue (one_queue p q bytes a b)
queue_once Removed Removed bytes id f g a b = refl
queue_once (Queue p) Removed bytes id f g a b = let e = a.spelled in absurd (cc)
queue_once Removed (Queue q) bytes id f g a b = let e = b.spelled in absurd (cc)
queue_once body other bytes id f g a b = absurd (cc)

set_once : (body other : Body) (bytes : List ℕ) (id : ℕ) → suits body (Sem id) ≡ true → suits other (Sem id) ≡ true
    → IsSpelled body bytes → IsSpelled other bytes → body ≡ other
set_once (Set p) (Set q) bytes id f g a b = ap Set (one_set p q bytes a b)
set_once Removed Removed bytes id f g a b = refl
set_once (Set p) Removed bytes id f g a b = let e = a.spelled in absurd (cc)
set_once Removed (Set q) bytes id f g a b = let e = b.spelled in absurd (cc)
set_once body other bytes id f g a b = absurd (cc)

pub bodies_are_one : (name : Name) (body other : Body) (bytes : List ℕ) → IsTrue (suits body name)
    → IsTrue (suits other name)
    → IsSpelled body bytes → IsSpelled other bytes → body ≡ other
bodies_are_one (Proc pid) body other bytes f g a b = process_once body other bytes pid f g a b
bodies_are_one (Msg id) body other bytes f g a b = queue_once body other bytes id f g a b
bodies_are_one (Sem id) body other bytes f g a b = set_once body other bytes id f g a b
