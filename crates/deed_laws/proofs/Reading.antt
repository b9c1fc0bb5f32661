-- A body's bytes are read as that body.
use Rattle.std.proofs.Common.{◌≡◌, ◌∙◌, ℕ, zero, suc, Bool, true, false, not, ◌&&◌, nat_eq, nat_le, List, [], ◌∷◌, ◌++◌, length, take, drop, Some, None, refl, ap, arith}
use Rattle.std.specs.Prelude.{if◌then◌else◌, bytes_eq}
use Rattle.std.specs.List.{list_all, list_any}
use Rattle.std.specs.Option.{option_and_then, option_map}
use Rattle.std.proofs.lemmas.Bool.{eq-eqb, le-leb}
use Rattle.pico_base.specs.declared.numbers.Name.{Name}
use Rattle.pico_base.specs.declared.numbers.Name.TheVariants.{Proc, Msg, Sem}
use Rattle.pico_base.specs.declared.reply.Ending.{Ending}
use Rattle.pico_base.specs.declared.reply.Ending.TheVariants.{Exited, Killed}
use Rattle.pico_base.specs.declared.signal.Act.{Act}
use Rattle.pico_base.specs.declared.signal.Act.TheVariants.{Dfl}
use Rattle.pico_base.specs.declared.signal.Sig.TheVariants.{Hup, Int, Quit, Kill, Usr1, Usr2, Pipe, Alrm, Term, Chld}
use Rattle.pico_base.specs.Signal.{all_signals}
use Rattle.kernel_model.specs.Row.{Family, Row}
use Rattle.kernel_model.specs.Signals.{Signals}
use Rattle.signal_state.specs.Held.{AreHeld, is_kept}
use Rattle.signal_state.specs.Spelling.{signal_bytes, HasBytes as HasSignalBytes}
use Rattle.signal_state.proofs.Bodies.{all_signals-pass, fields-again, held-parts, signal_bytes-length}
use Rattle.fork_wait.specs.Children.{AreChildren, are_different, children}
use Rattle.fork_wait.specs.Reading.{max_children}
use Rattle.fork_wait.specs.Spelling.{ending_bytes, family_bytes, HasBytes as HasFamilyBytes}
use Rattle.fork_wait.proofs.Bodies.{bytes_again}
use Rattle.sysv_msg.specs.Body.{body as queue_bytes}
use Rattle.sysv_msg.proofs.Bodies.{body-again}
use Rattle.sysv_sem.specs.Body.{body as set_bytes}
use Rattle.sysv_sem.proofs.Bodies.{set_again}
use Rattle.node_model.specs.Bodies.{Body, Living, Ended, Gone, AQueue, ASet, Removed}
use Rattle.node_model.specs.Spelling.{are_children, are_signals, body_bytes, family_if, is_default, pack, read_body, read_deed, read_ending, read_family, read_process, read_queue, read_row, read_set, read_signals, row_bytes, row_with, signals_from, signals_if, signals_size}
use Rattle.deed_laws.specs.Spelled.{HasBytes, HasRowBytes}

-- ---- signals

same-bytes : (bytes : List ℕ) → bytes_eq bytes bytes ≡ true
same-bytes [] = refl
same-bytes (x ∷ xs) = and-both (nat_eq x x) (bytes_eq xs xs) (eq-eqb x x refl) (same-bytes xs)
  where
    and-both : (a b : Bool) → a ≡ true → b ≡ true → (a && b) ≡ true
    and-both true b h g = g
    and-both false b h g = absurd (cc)

both : (a b : Bool) → a ≡ true → b ≡ true → (a && b) ≡ true
both true b h g = g
both false b h g = absurd (cc)

default-is : (act : Act) → act ≡ Dfl → is_default act ≡ true
default-is act h = ap is_default h

signals-are : (s : Signals) → HasSignalBytes s → are_signals s ≡ true
signals-are s has =
    let parts : AreHeld s.actions s.mask s.pending = held-parts s has.held
    in both (is_default s.actions.kill)
    (not s.mask.kill && (not s.pending.kill && list_all (is_kept s.actions s.pending) all_signals))
    (default-is s.actions.kill parts.kill_default)
    (both (not s.mask.kill) (not s.pending.kill && list_all (is_kept s.actions s.pending) all_signals)
    (ap not parts.unmasked)
    (both (not s.pending.kill) (list_all (is_kept s.actions s.pending) all_signals) (ap not parts.no_kill)
    (all_signals-pass (is_kept s.actions s.pending) parts.kept)))

fields-are : (s : Signals) → HasSignalBytes s → signals_from (signal_bytes s) ≡ s
fields-are s has = fields-again (signal_bytes s) s _ _ _ _ _ has refl refl refl refl refl refl

signals-again : (s : Signals) → HasSignalBytes s → read_signals (signal_bytes s) ≡ Some s
unfolding read_signals
signals-again s has =
    ap (signals_if (signal_bytes s)) (fields-are s has)
    ∙ ap (λ (t : Bool). if t then Some s else None)
    (both (bytes_eq (signal_bytes s) (signal_bytes s)) (are_signals s) (same-bytes (signal_bytes s))
    (signals-are s has))

-- ---- families

children-are : (f : Family) → HasFamilyBytes f → are_children (children f) ≡ true
children-are f has =
    let sound : AreChildren (children f) = has.sound
    in both (nat_le (length (children f)) max_children)
    (not (list_any (nat_eq 0) (children f)) && are_different (children f))
    (le-leb (length (children f)) max_children sound.few)
    (both (not (list_any (nat_eq 0) (children f))) (are_different (children f)) (ap not sound.positive) sound.different)

family-again : (f : Family) → HasFamilyBytes f → read_family (family_bytes f) ≡ Some f
unfolding read_family
family-again f has =
    ap (option_and_then family_if) (bytes_again (family_bytes f) f refl has)
    ∙ ap (λ (t : Bool). if t then Some f else None) (children-are f has)

-- ---- rows

front-of : (s f : List ℕ) (n : ℕ) → length s ≡ n → take n (s ++ f) ≡ s
front-of [] f zero h = refl
front-of [] f (suc n) h = absurd (omega arith)
front-of (x ∷ s) f zero h = absurd (omega arith)
front-of (x ∷ s) f (suc n) h = ap (λ (xs : List ℕ). x ∷ xs) (front-of s f n (omega arith))

rest-of : (s f : List ℕ) (n : ℕ) → length s ≡ n → drop n (s ++ f) ≡ f
rest-of [] f zero h = refl
rest-of [] f (suc n) h = absurd (omega arith)
rest-of (x ∷ s) f zero h = absurd (omega arith)
rest-of (x ∷ s) f (suc n) h = rest-of s f n (omega arith)

row-again : (row : Row) → HasRowBytes row → read_row (row_bytes row) ≡ Some row
unfolding read_row row_bytes
row-again row has =
    let s : List ℕ = signal_bytes row.signals
    in let f : List ℕ = family_bytes row.family
    in let sized : length s ≡ signals_size = signal_bytes-length row.signals
    in let front : read_signals (take signals_size (s ++ f)) ≡ Some row.signals =
    ap read_signals (front-of s f signals_size sized) ∙ signals-again row.signals has.signals
    in let rest : read_family (drop signals_size (s ++ f)) ≡ Some row.family =
    ap read_family (rest-of s f signals_size sized) ∙ family-again row.family has.family
    in ap (option_and_then (λ signals. option_map (row_with signals) (read_family (drop signals_size (s ++ f))))) front
    ∙ ap (option_map (row_with row.signals)) rest

-- ---- bodies

ending-again : (ending : Ending) → read_ending (ending_bytes ending) ≡ Some ending
ending-again (Exited status) = refl
ending-again (Killed Hup) = refl
ending-again (Killed Int) = refl
ending-again (Killed Quit) = refl
ending-again (Killed Kill) = refl
ending-again (Killed Usr1) = refl
ending-again (Killed Usr2) = refl
ending-again (Killed Pipe) = refl
ending-again (Killed Alrm) = refl
ending-again (Killed Term) = refl
ending-again (Killed Chld) = refl

-- A deed's body, packed, is read back as it was.
pub deed-again : (name : Name) (body : Body) → HasBytes name body → read_deed (pack name body) ≡ Some body
unfolding read_deed read_body read_process read_queue read_set body_bytes
deed-again (Proc pid) (Living row) has = ap (option_map Living) (row-again row has)
deed-again (Proc pid) (Ended ending) has = ap (option_map Ended) (ending-again ending)
deed-again (Proc pid) Gone has = refl
deed-again (Proc pid) (AQueue q) has = absurd has
deed-again (Proc pid) (ASet s) has = absurd has
deed-again (Proc pid) Removed has = absurd has
deed-again (Msg id) (AQueue q) has =
    ap (option_map AQueue)
    (body-again (queue_bytes q) q
    (record {
      limits = has.limits;
      waiters = has.waiting.waiters;
      settled = has.waiting.settled;
      sender = has.sender;
      receiver = has.receiver;
      spelled = refl;
    }))
deed-again (Msg id) Removed has = refl
deed-again (Msg id) (Living row) has = absurd has
deed-again (Msg id) (Ended e) has = absurd has
deed-again (Msg id) Gone has = absurd has
deed-again (Msg id) (ASet s) has = absurd has
deed-again (Sem id) (ASet s) has =
    ap (option_map ASet)
    (set_again (set_bytes s) s
    (record {
      rest = record { limits = has.limits; waiters = has.waiting.waiters; settled = has.waiting.settled };
      processes = has.processes;
      ranges = has.waiting.ranges;
      spelled = refl;
    }))
deed-again (Sem id) Removed has = refl
deed-again (Sem id) (Living row) has = absurd has
deed-again (Sem id) (Ended e) has = absurd has
deed-again (Sem id) Gone has = absurd has
deed-again (Sem id) (AQueue q) has = absurd has
