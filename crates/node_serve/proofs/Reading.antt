-- What spells a body is what the definitions read as it, and write of it.
use Rattle.std.proofs.Common.{◌≡◌, ◌∙◌, ℕ, ◌≤◌, Bool, true, false, not, ◌&&◌, nat_le, List, [], ◌∷◌, ◌++◌, length, take, drop, Option, Some, None, refl, sym, ap, arith}
use Rattle.std.specs.Prelude.{if◌then◌else◌, bytes_eq, IsTrue}
use Rattle.std.specs.List.{list_all}
use Rattle.std.specs.Option.{option_and_then, option_map}
use Rattle.std.proofs.lemmas.Slice.Eq.{bytes_eq-Decides}
use Rattle.pico_base.specs.declared.numbers.Name.{Name}
use Rattle.pico_base.specs.declared.numbers.Name.TheVariants.{Proc, Msg, Sem}
use Rattle.pico_base.specs.declared.reply.Ending.{Ending as Ends}
use Rattle.pico_base.specs.declared.reply.Ending.TheVariants.{Exited, Killed}
use Rattle.pico_base.specs.Signal.{all_signals}
use Rattle.signal_state.specs.Held.{is_kept}
use Rattle.signal_state.specs.Spelling.{signal_bytes, HasBytes as HasSignalBytes}
use Rattle.signal_state.proofs.Bodies.{all_signals-pass, doom-again, fields-again, held-parts}
use Rattle.fork_wait.specs.Children.{children}
use Rattle.fork_wait.specs.Spelling.{ending_bytes, family_bytes, HasBytes as HasFamilyBytes}
use Rattle.fork_wait.specs.Reading.{family_at}
use Rattle.fork_wait.proofs.Bodies.{bytes_again}
use Rattle.sysv_msg.specs.Body as queues
use Rattle.sysv_msg.specs.Reading.{queue_at}
use Rattle.sysv_msg.proofs.Bodies as queue_laws
use Rattle.sysv_sem.specs.Body as sets
use Rattle.sysv_sem.specs.Reading.{set_at}
use Rattle.sysv_sem.proofs.Bodies as set_laws
use Rattle.rpc_frame.specs.declared.deed.PackedDeed.{PackedDeed}
use Rattle.kernel_model.specs.Signals.{Signals}
use Rattle.kernel_model.specs.Row.{Family}
use Rattle.kernel_model.specs.Row as kernel
use Rattle.node_model.specs.Bodies as model
use Rattle.node_model.specs.Spelling.{are_children, are_signals, body_bytes, family_if, is_default, read_body, read_deed, read_ending, read_family, read_process, read_queue, read_row, read_set, read_signals, row_bytes, row_with, signals_from, signals_if}
use Rattle.deed_box.specs.Packing.{IsPackedDeed}
use Rattle.node_serve.specs.declared.body.Row.{Row}
use Rattle.node_serve.specs.declared.body.Body.{Body}
use Rattle.node_serve.specs.declared.body.Body.TheVariants.{Living, Ended, Gone, Queue, Set, Removed}
use Rattle.node_serve.specs.Bodies.{body_of, row_of}
use Rattle.node_serve.specs.Spelled.{IsRow, IsSpelled, suits}
use Rattle.node_serve.specs.Laws.{row-front, row-rest}

-- ---- what is written

-- the bytes that spell a body are those that the definition writes
pub body-written : (body : Body) (bytes : List ℕ) → IsSpelled body bytes → bytes ≡ body_bytes (body_of body)
unfolding body_bytes row_bytes
body-written (Living row) [] is = absurd is
body-written (Living row) (code ∷ bytes) is =
    ap (λ (c : ℕ). c ∷ bytes) is.0 ∙ ap (λ (rest : List ℕ). 1 ∷ rest) is.1.spelled
body-written (Ended ending) bytes is = is.1
body-written Gone bytes is = is
body-written (Queue queue) bytes is = is.spelled
body-written (Set set) bytes is = is.spelled
body-written Removed bytes is = is

-- ---- what is read

same-bytes : (bytes : List ℕ) → bytes_eq bytes bytes ≡ true
same-bytes bytes = grind (arith, bytes_eq-Decides bytes bytes)

all-four : (a b c d : Bool) → a ≡ true → b ≡ true → c ≡ true → d ≡ true → (a && (b && (c && d))) ≡ true
all-four a b c d first second third last = rw (first, second, third, last) refl

signals-sound : (s : Signals) → HasSignalBytes s → are_signals s ≡ true
signals-sound s has =
    let parts = held-parts s has.held
    in let kept : list_all (is_kept s.actions s.pending) all_signals ≡ true =
    all_signals-pass (is_kept s.actions s.pending) parts.kept
    in all-four (is_default s.actions.kill) (not s.mask.kill) (not s.pending.kill)
    (list_all (is_kept s.actions s.pending) all_signals) (ap is_default parts.kill_default)
    (ap not parts.unmasked) (ap not parts.no_kill) kept

signals-read : (s : Signals) → HasSignalBytes s → read_signals (signal_bytes s) ≡ Some s
unfolding read_signals
signals-read s has =
    let is : signals_from (signal_bytes s) ≡ s =
    fields-again (signal_bytes s) s _ _ _ _ _ has refl refl refl refl refl refl
    in ap (signals_if (signal_bytes s)) is
    ∙ ap (λ (b : Bool). if b && are_signals s then Some s else None) (same-bytes (signal_bytes s))
    ∙ ap (λ (b : Bool). if b then Some s else None) (signals-sound s has)

children-sound : (f : Family) → HasFamilyBytes f → are_children (children f) ≡ true
children-sound f has =
    let few : nat_le (length (children f)) 31 ≡ true = grind (arith, has.sound.few)
    in rw (few, has.sound.positive, has.sound.different) refl

family-read : (f : Family) → HasFamilyBytes f → read_family (family_bytes f) ≡ Some f
unfolding read_family
family-read f has =
    ap (option_and_then family_if) (bytes_again (family_bytes f) f refl has)
    ∙ ap (λ (b : Bool). if b then Some f else None) (children-sound f has)

row-read : (row : Row) (bytes : List ℕ) → IsRow row bytes → read_row bytes ≡ Some (row_of row)
unfolding read_row
row-read row bytes is =
    ap (option_and_then (λ signals. option_map (row_with signals) (read_family (drop 55 bytes))))
    (ap read_signals (row-front row bytes is) ∙ signals-read row.signals is.signals)
    ∙ ap (option_map (row_with row.signals))
    (ap read_family (row-rest row bytes is) ∙ family-read row.family is.family)

ending-read : (ending : Ends) → read_ending (ending_bytes ending) ≡ Some ending
ending-read (Exited status) = refl
ending-read (Killed g) = ap (option_map Killed) (doom-again (Some g))

process-read : (pid : ℕ) (body : Body) (bytes : List ℕ) → suits body (Proc pid) ≡ true → IsSpelled body bytes
    → read_body (Proc pid) bytes ≡ Some (body_of body)
unfolding read_body read_process
process-read pid (Living row) [] fits is = absurd is
process-read pid (Living row) (code ∷ bytes) fits is =
    ap (λ (c : ℕ). read_process c bytes) is.0 ∙ ap (option_map model.Living) (row-read row bytes is.1)
process-read pid (Ended ending) bytes fits is =
    ap (read_body (Proc pid)) is.1 ∙ ap (option_map model.Ended) (ending-read ending)
process-read pid Gone bytes fits is = ap (read_body (Proc pid)) is
process-read pid body bytes fits is = absurd (cc)

queue-read : (id : ℕ) (body : Body) (bytes : List ℕ) → suits body (Msg id) ≡ true → IsSpelled body bytes
    → read_body (Msg id) bytes ≡ Some (body_of body)
unfolding read_body read_queue
queue-read id (Queue queue) bytes fits is =
    ap (read_body (Msg id)) is.spelled
    ∙ ap (option_map model.AQueue) (sym (ap queue_at is.spelled) ∙ queue_laws.body-again bytes queue is)
queue-read id Removed bytes fits is = ap (read_body (Msg id)) is
queue-read id body bytes fits is = absurd (cc)

set-read : (id : ℕ) (body : Body) (bytes : List ℕ) → suits body (Sem id) ≡ true → IsSpelled body bytes
    → read_body (Sem id) bytes ≡ Some (body_of body)
unfolding read_body read_set
set-read id (Set set) bytes fits is =
    ap (read_body (Sem id)) is.spelled
    ∙ ap (option_map model.ASet) (sym (ap set_at is.spelled) ∙ set_laws.set_again bytes set is)
set-read id Removed bytes fits is = ap (read_body (Sem id)) is
set-read id body bytes fits is = absurd (cc)

-- what spells a body under a name that it goes with is read as that body
pub body-read : (name : Name) (body : Body) (bytes : List ℕ) → suits body name ≡ true → IsSpelled body bytes
    → read_body name bytes ≡ Some (body_of body)
body-read (Proc pid) body bytes fits is = process-read pid body bytes fits is
body-read (Msg id) body bytes fits is = queue-read id body bytes fits is
body-read (Sem id) body bytes fits is = set-read id body bytes fits is

-- and so is a packed deed
pub deed-read : (deed : Name × Body) (packed : PackedDeed) → IsPackedDeed suits IsSpelled deed packed
    → read_deed packed ≡ Some (body_of deed.1)
unfolding read_deed
deed-read deed packed is =
    ap (λ (name : Name). read_body name packed.body) is.name ∙ body-read deed.0 deed.1 packed.body is.suits is.body
