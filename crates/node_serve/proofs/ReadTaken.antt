-- What the definitions read as a body spells it: they read no bytes that spell none.
use Rattle.std.proofs.Common.{◌≡◌, ◌∙◌, ℕ, zero, suc, ◌+◌, ◌≤◌, ◌<◌, ◌^◌, Bool, true, false, not, ◌&&◌, eqb, nat_le, List, [], ◌∷◌, ◌++◌, length, take, drop, get_or, Option, Some, None, refl, sym, ap, subst, inl, inr, arith}
use Rattle.std.specs.Prelude.{◌==◌, if◌then◌else◌, bytes_eq, slice_index, find}
use Rattle.std.specs.Int.{w32}
use Rattle.std.specs.List.{list_all, list_any}
use Rattle.std.specs.Option.{option_and_then, option_map}
use Rattle.std.proofs.lemmas.Bool.{and_parts, cases_lt, eqb-true}
use Rattle.std.proofs.lemmas.List.{get_or-take, get_or_past, length-take, take-append-drop}
use Rattle.std.proofs.lemmas.Slice.Eq.{bytes_eq-Decides}
use Rattle.pico_base.specs.declared.numbers.Name.{Name}
use Rattle.pico_base.specs.declared.numbers.Name.TheVariants.{Proc, Msg, Sem}
use Rattle.pico_base.specs.declared.reply.Ending.{Ending as Ends}
use Rattle.pico_base.specs.declared.reply.Ending.TheVariants.{Exited, Killed}
use Rattle.pico_base.specs.declared.signal.Act.{Act}
use Rattle.pico_base.specs.declared.signal.Act.TheVariants.{Dfl, Ign, Catch}
use Rattle.pico_base.specs.declared.signal.Sig.{Sig}
use Rattle.pico_base.specs.Signal.{all_signals, at, signal_from, signal_number}
use Rattle.body_fields.proofs.Fields.{IsBytes, IsBytes-drop, IsBytes-rest, wide32}
use Rattle.signal_state.specs.Held.{is_kept}
use Rattle.signal_state.specs.Reading.{count_at, counts_from}
use Rattle.signal_state.specs.Spelling.{signal_bytes, HasBytes as HasSignalBytes}
use Rattle.signal_state.proofs.Bodies.{at-small, each-signal}
use Rattle.fork_wait.specs.Children.{AreChildren, are_different, children}
use Rattle.fork_wait.specs.Spelling.{ending_bytes, family_bytes, HasBytes as HasFamilyBytes}
use Rattle.fork_wait.specs.Reading.{ending_from, family_at}
use Rattle.fork_wait.proofs.Bodies.{are-found}
use Rattle.sysv_msg.specs.Reading.{queue_at}
use Rattle.sysv_msg.proofs.Bodies.{body-takes}
use Rattle.sysv_sem.specs.Reading.{set_at}
use Rattle.sysv_sem.proofs.Bodies.{set_takes}
use Rattle.kernel_model.specs.Signals.{Signals, discards}
use Rattle.kernel_model.specs.Queue as kernel_queue
use Rattle.kernel_model.specs.SemaphoreSet.{SemaphoreSet}
use Rattle.kernel_model.specs.Row.{Family}
use Rattle.kernel_model.specs.Row as kernel
use Rattle.node_model.specs.Bodies as model
use Rattle.node_model.specs.Spelling.{alone, are_children, are_signals, family_if, is_default, read_body, read_ending, read_family, read_process, read_queue, read_row, read_set, read_signals, row_with, signals_from, signals_if}
use Rattle.node_serve.specs.declared.body.Row.{Row}
use Rattle.node_serve.specs.declared.body.Body.{Body}
use Rattle.node_serve.specs.declared.body.Body.TheVariants.{Living, Ended, Gone, Queue, Set, Removed}
use Rattle.node_serve.specs.Bodies.{body_of, row_of}
use Rattle.node_serve.specs.Read.{IsReadAs, ReadBodiesAreSpelled, SpelledBodiesAreRead}
use Rattle.node_serve.specs.Spelled.{IsEnding, IsRow, IsSpelled, suits}
use Rattle.node_serve.proofs.Reading.{body-read, body-written}

some_same : {A : Type 0} (x y : A) → Some x ≡ Some y → x ≡ y
some_same x y h = cc

-- ---- steps of reading

-- what a test lets through
record Passes {V : Type 0} (b : Bool) (x y : V) : Type 0 where
  pub test : b ≡ true
  pub same : x ≡ y

passes : {V : Type 0} (b : Bool) (x y : V) → (if b then Some x else None) ≡ Some y → Passes b x y
passes true x y h = record { test = refl; same = some_same x y h }
passes false x y h = absurd (cc)

record Mapped {V W : Type 0} (f : V → W) (o : Option V) (y : W) : Type 0 where
  pub value : V
  pub is : o ≡ Some value
  pub same : f value ≡ y

mapped : {V W : Type 0} (f : V → W) (o : Option V) (y : W) → option_map f o ≡ Some y → Mapped f o y
mapped f None y h = absurd (cc)
mapped f (Some x) y h = record { value = x; is = refl; same = some_same (f x) y h }

record Bound {V W : Type 0} (f : V → Option W) (o : Option V) (y : W) : Type 0 where
  pub value : V
  pub is : o ≡ Some value
  pub then_is : f value ≡ Some y

bound : {V W : Type 0} (f : V → Option W) (o : Option V) (y : W) → option_and_then f o ≡ Some y → Bound f o y
bound f None y h = absurd (cc)
bound f (Some x) y h = record { value = x; is = refl; then_is = h }

fits-take : (n : ℕ) (bytes : List ℕ) → IsBytes bytes → IsBytes (take n bytes)
fits-take n bytes h i =
    elim (cases_lt i n) [
      | inl lt ↦ rw (get_or-take n bytes i 0 lt) (h i)
      | inr le ↦ rw (get_or_past (take n bytes) i 0 (omega (arith, length-take n bytes))) (omega arith)
    ]

-- ---- signals

default-is : (act : Act) → is_default act ≡ true → act ≡ Dfl
default-is Dfl h = refl
default-is Ign h = absurd (cc)
default-is Catch h = absurd (cc)

not-is : (b : Bool) → not b ≡ true → b ≡ false
not-is false h = refl
not-is true h = absurd (cc)

kept-is : (pending discarded : Bool) → not (pending && discarded) ≡ true → pending ≡ true → discarded ≡ false
kept-is true discarded h is = not-is discarded h
kept-is false discarded h is = absurd (cc)

four-fit : (bytes : List ℕ) (place : ℕ) → IsBytes bytes
    → IsBytes (slice_index bytes place ∷ slice_index bytes (place + 1) ∷ slice_index bytes (place + 2)
    ∷ slice_index bytes (place + 3) ∷ [])
four-fit bytes place fits zero = fits place
four-fit bytes place fits (suc zero) = fits (place + 1)
four-fit bytes place fits (suc (suc zero)) = fits (place + 2)
four-fit bytes place fits (suc (suc (suc zero))) = fits (place + 3)
four-fit bytes place fits (suc (suc (suc (suc i)))) = omega arith

count-small : (bytes : List ℕ) (place : ℕ) → IsBytes bytes → count_at bytes place < 2 ^ 32
count-small bytes place fits =
    wide32.below
    (slice_index bytes place ∷ slice_index bytes (place + 1) ∷ slice_index bytes (place + 2)
    ∷ slice_index bytes (place + 3) ∷ [])
    (four-fit bytes place fits)

counts-small : (bytes : List ℕ) → IsBytes bytes → (g : Sig) → at (counts_from bytes) g < 2 ^ 32
counts-small bytes fits =
    at-small (counts_from bytes) (2 ^ 32) (count-small bytes 14 fits) (count-small bytes 18 fits)
    (count-small bytes 22 fits) (count-small bytes 26 fits) (count-small bytes 30 fits) (count-small bytes 34 fits)
    (count-small bytes 38 fits) (count-small bytes 42 fits) (count-small bytes 46 fits) (count-small bytes 50 fits)

signals-has : (s : Signals) → are_signals s ≡ true → ((g : Sig) → at s.handled g < 2 ^ 32) → HasSignalBytes s
signals-has s sound small =
    let a = and_parts (is_default s.actions.kill) _ sound
    in let b = and_parts (not s.mask.kill) _ a.1
    in let c = and_parts (not s.pending.kill) (list_all (is_kept s.actions s.pending) all_signals) b.1
    in record {
      held = record {
        sound = record {
          kept = λ g. kept-is (at s.pending g) (discards (at s.actions g) g)
              (each-signal (is_kept s.actions s.pending) c.1 g);
          unmasked = not-is s.mask.kill b.0;
          kill_default = default-is s.actions.kill a.0;
        };
        no_kill = not-is s.pending.kill c.0;
      };
      counts = small;
    }

record SignalsTaken (bytes : List ℕ) (s : Signals) : Type 0 where
  pub spelled : bytes ≡ signal_bytes s
  pub has : HasSignalBytes s

signals-taken : (bytes : List ℕ) (s : Signals) → IsBytes bytes → read_signals bytes ≡ Some s → SignalsTaken bytes s
unfolding read_signals
signals-taken bytes s fits read =
    let p = passes (bytes_eq (signal_bytes (signals_from bytes)) bytes && are_signals (signals_from bytes))
    (signals_from bytes) s read
    in let parts = and_parts (bytes_eq (signal_bytes (signals_from bytes)) bytes) _ p.test
    in subst (SignalsTaken bytes) p.same
    (record {
      spelled = sym ((bytes_eq-Decides (signal_bytes (signals_from bytes)) bytes).0 parts.0);
      has = signals-has (signals_from bytes) parts.1 (counts-small bytes fits);
    })

-- ---- families and rows

few-children : (n : ℕ) → nat_le n 31 ≡ true → n ≤ 31
few-children n h = grind arith

children-are : (ns : List ℕ) → are_children ns ≡ true → AreChildren ns
children-are ns h =
    let a = and_parts (nat_le (length ns) 31) _ h
    in let b = and_parts (not (list_any (eqb 0) ns)) (are_different ns) a.1
    in record { few = few-children (length ns) a.0; positive = not-is (list_any (eqb 0) ns) b.0; different = b.1 }

family-taken : (bytes : List ℕ) (f : Family) → IsBytes bytes → read_family bytes ≡ Some f
    → (bytes ≡ family_bytes f) × HasFamilyBytes f
unfolding read_family
family-taken bytes f fits read =
    let b = bound family_if (family_at bytes) f read
    in let p = passes (are_children (children b.value)) b.value f b.then_is
    in subst (λ (x : Family). (bytes ≡ family_bytes x) × HasFamilyBytes x) p.same
    (are-found bytes b.value fits b.is (children-are (children b.value) p.test))

abbrev as_row : kernel.Row → Row
as_row row = record { signals = row.signals; family = row.family }

row-taken : (bytes : List ℕ) (row : kernel.Row) → IsBytes bytes → read_row bytes ≡ Some row → IsRow (as_row row) bytes
unfolding read_row
row-taken bytes row fits read =
    let b = bound (λ signals. option_map (row_with signals) (read_family (drop 55 bytes)))
    (read_signals (take 55 bytes)) row read
    in let m = mapped (row_with b.value) (read_family (drop 55 bytes)) row b.then_is
    in let s = signals-taken (take 55 bytes) b.value (fits-take 55 bytes fits) b.is
    in let f = family-taken (drop 55 bytes) m.value (IsBytes-drop 55 bytes fits) m.is
    in subst (λ (r : kernel.Row). IsRow (as_row r) bytes) m.same
    (record {
      signals = s.has;
      family = f.1;
      spelled = sym (take-append-drop 55 bytes)
          ∙ ap (λ (front : List ℕ). front ++ drop 55 bytes) s.spelled
          ∙ ap (λ (rest : List ℕ). signal_bytes b.value ++ rest) f.0;
    })

-- ---- endings

found-passes : {X : Type 0} (p : X → Bool) (xs : List X) (x : X) → find p xs ≡ Some x → p x ≡ true
found-passes p [] x h = absurd (cc)
found-passes p (y ∷ ys) x h = by (p y) refl h (found-passes p ys x)
  where
    by : (b : Bool) → p y ≡ b → (if b then Some y else find p ys) ≡ Some x → (find p ys ≡ Some x → p x ≡ true)
        → p x ≡ true
    by true is found rest = sym (ap p (some_same y x found)) ∙ is
    by false is found rest = rest found

record EndingTaken (bytes : List ℕ) (ending : Ends) : Type 0 where
  pub within : IsEnding ending
  pub spelled : bytes ≡ ending_bytes ending

ending-by : (kind value : ℕ) (ending : Ends) (a b : Bool) → value < 256 → (kind == 0) ≡ a → (kind == 1) ≡ b
    → (if a then Some (Exited value) else if b then option_map Killed (signal_from value) else None) ≡ Some ending
    → EndingTaken (kind ∷ value ∷ []) ending
ending-by kind value ending true b small exits kills read =
    subst (EndingTaken (kind ∷ value ∷ [])) (some_same (Exited value) ending read)
    (record { within = small; spelled = ap (λ (k : ℕ). k ∷ value ∷ []) (eqb-true kind 0 exits) })
ending-by kind value ending false true small exits kills read =
    let m = mapped Killed (signal_from value) ending read
    in let number : signal_number m.value ≡ value =
    eqb-true (signal_number m.value) value (found-passes (λ g. signal_number g == value) all_signals m.value m.is)
    in subst (EndingTaken (kind ∷ value ∷ [])) m.same
    (record {
      within = tt;
      spelled = ap (λ (k : ℕ). k ∷ value ∷ []) (eqb-true kind 1 kills) ∙ ap (λ (v : ℕ). 1 ∷ v ∷ []) (sym number);
    })
ending-by kind value ending false false small exits kills read = absurd (cc)

ending-taken : (bytes : List ℕ) (ending : Ends) → IsBytes bytes → read_ending bytes ≡ Some ending
    → EndingTaken bytes ending
ending-taken [] ending fits read = absurd (cc)
ending-taken (kind ∷ []) ending fits read = absurd (cc)
ending-taken (kind ∷ value ∷ []) ending fits read =
    ending-by kind value ending (kind == 0) (kind == 1) (fits 1) refl refl read
ending-taken (kind ∷ value ∷ more ∷ bytes) ending fits read = absurd (cc)

-- ---- bodies

process-by : (pid code : ℕ) (bytes : List ℕ) (body : model.Body) (a b c : Bool) → IsBytes bytes → (code == 1) ≡ a
    → (code == 2) ≡ b → (code == 3) ≡ c
    → (if a then option_map model.Living (read_row bytes)
    else if b then option_map model.Ended (read_ending bytes)
    else if c then alone model.Gone bytes
    else None) ≡ Some body
    → IsReadAs (Proc pid) (code ∷ bytes) body
process-by pid code bytes body true b c fits first second third read =
    let m = mapped model.Living (read_row bytes) body read
    in record {
      held = Living (as_row m.value);
      is = m.same;
      goes = refl;
      spelled = (eqb-true code 1 first, row-taken bytes m.value fits m.is);
    }
process-by pid code bytes body false true c fits first second third read =
    let m = mapped model.Ended (read_ending bytes) body read
    in let e = ending-taken bytes m.value fits m.is
    in record {
      held = Ended m.value;
      is = m.same;
      goes = refl;
      spelled = (
        e.within,
        ap (λ (k : ℕ). k ∷ bytes) (eqb-true code 2 second) ∙ ap (λ (rest : List ℕ). 2 ∷ rest) e.spelled,
      );
    }
process-by pid code [] body false false true fits first second third read =
    record {
      held = Gone;
      is = some_same model.Gone body read;
      goes = refl;
      spelled = ap (λ (k : ℕ). k ∷ []) (eqb-true code 3 third);
    }
process-by pid code (x ∷ bytes) body false false true fits first second third read = absurd (cc)
process-by pid code bytes body false false false fits first second third read = absurd (cc)

queue-by : (id code : ℕ) (bytes : List ℕ) (body : model.Body) (a : Bool) → IsBytes (code ∷ bytes) → (code == 6) ≡ a
    → (if a then alone model.Removed bytes else option_map model.AQueue (queue_at (code ∷ bytes))) ≡ Some body
    → IsReadAs (Msg id) (code ∷ bytes) body
queue-by id code [] body true fits six read =
    record {
      held = Removed;
      is = some_same model.Removed body read;
      goes = refl;
      spelled = ap (λ (k : ℕ). k ∷ []) (eqb-true code 6 six);
    }
queue-by id code (x ∷ bytes) body true fits six read = absurd (cc)
queue-by id code bytes body false fits six read =
    let m = mapped model.AQueue (queue_at (code ∷ bytes)) body read
    in record {
      held = Queue m.value;
      is = m.same;
      goes = refl;
      spelled = body-takes (code ∷ bytes) m.value fits m.is;
    }

set-by : (id code : ℕ) (bytes : List ℕ) (body : model.Body) (a : Bool) → IsBytes (code ∷ bytes) → (code == 6) ≡ a
    → (if a then alone model.Removed bytes else option_map model.ASet (set_at (code ∷ bytes))) ≡ Some body
    → IsReadAs (Sem id) (code ∷ bytes) body
set-by id code [] body true fits six read =
    record {
      held = Removed;
      is = some_same model.Removed body read;
      goes = refl;
      spelled = ap (λ (k : ℕ). k ∷ []) (eqb-true code 6 six);
    }
set-by id code (x ∷ bytes) body true fits six read = absurd (cc)
set-by id code bytes body false fits six read =
    let m = mapped model.ASet (set_at (code ∷ bytes)) body read
    in record {
      held = Set m.value;
      is = m.same;
      goes = refl;
      spelled = set_takes (code ∷ bytes) m.value fits m.is;
    }

-- what is read as a body under a name is spelled by these bytes, and goes with the name
pub read-spelled : ReadBodiesAreSpelled
unfolding read_body read_process read_queue read_set
read-spelled name [] body fits read = absurd (cc)
read-spelled (Proc pid) (code ∷ bytes) body fits read =
    process-by pid code bytes body (code == 1) (code == 2) (code == 3) (IsBytes-rest code bytes fits) refl refl refl
    read
read-spelled (Msg id) (code ∷ bytes) body fits read = queue-by id code bytes body (code == 6) fits refl read
read-spelled (Sem id) (code ∷ bytes) body fits read = set-by id code bytes body (code == 6) fits refl read

-- and the other way round
pub spelled-read : SpelledBodiesAreRead
spelled-read name body bytes goes spelled =
    record { written = body-written body bytes spelled; read = body-read name body bytes goes spelled }
