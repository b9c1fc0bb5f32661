-- A history in which callers wait has at most two entries for each line, and one for each process that waits at its
-- end: an entry that parks has a line later, or its process waits still.
use Rattle.std.proofs.Common.{◌≡◌, ◌≢◌, ℕ, zero, suc, ◌+◌, ◌*◌, ◌<◌, ◌≤◌, Bool, true, false, ◌||◌, nat_eq, List, [], ◌∷◌, ◌++◌, length, map, Option, Some, None, is_some, refl, ap, sym, subst, ◌∙◌, inl, inr, arith}
use Rattle.std.proofs.lemmas.Bool.{and_parts, cases_Bool, cases_eq, eq-eqb, eqb-true, false≢true, ne_eqb, or_cases}
use Rattle.std.proofs.lemmas.List.{append-nil, append_assoc, length-append}
use Rattle.std.specs.List.{list_any}
use Rattle.std.specs.Prelude.{if◌then◌else◌}
use Rattle.pico_base.specs.declared.call.Call.TheVariants as calls
use Rattle.pico_base.specs.declared.call.Call.{Call}
use Rattle.pico_base.specs.declared.numbers.Name.{Name}
use Rattle.pico_base.specs.declared.reply.Entry.{Entry}
use Rattle.pico_base.specs.declared.reply.Outcome.{Outcome}
use Rattle.pico_base.specs.declared.reply.Reply.{Reply}
use Rattle.kernel_model.specs.History.{number_in}
use Rattle.waiting_model.specs.Calls.{withdrawn_from}
use Rattle.waiting_model.specs.History.{Replays}
use Rattle.waiting_model.specs.Kernel.{Kernel, opening}
use Rattle.waiting_model.specs.Linear.{in_line}
use Rattle.waiting_model.specs.Marks.{Alive, is_parked_at}
use Rattle.waiting_model.specs.Transition.{Successor, successor, transition}
use Rattle.waiting_laws.specs.Lines.{lines_by, lines_of, marked_line, own_line, wait_line, wait_lines, withdrawn_line}
use Rattle.waiting_laws.specs.MarkMoves.{MovesMarks, own_mark}
use Rattle.waiting_laws.specs.Parked.{mark_in, mark_of}
use Rattle.waiting_laws.specs.Woken.{woken_in}
use Rattle.waiting_laws.proofs.GoingOn.{lines-go-on}
use Rattle.waiting_laws.proofs.Marked.{Fine, no-mark}
use Rattle.waiting_laws.proofs.MarkMoves.{entry-moves}
use Rattle.waiting_laws.proofs.ParkWaits.{reached}
use Rattle.waiting_laws.proofs.SoundFine.{sound-fine}
use Rattle.waiting_laws.proofs.Steps.{leaves, makes}
use Rattle.waiting_laws.proofs.Woken.{acts-by}
use Rattle.world_model.specs.World.{numbers}
use Rattle.bound_laws.proofs.Totals.{one_if, total}

-- ---- sums over numbers

total-less : (f g : ℕ → ℕ) (ns : List ℕ) → ((q : ℕ) → f q ≤ g q) → total f ns ≤ total g ns
total-less f g [] less = omega arith
total-less f g (n ∷ ns) less =
    let first = less n
    in let rest = total-less f g ns less
    in omega (arith, first, rest)

total-both : (f g : ℕ → ℕ) (ns : List ℕ) → total (λ q. f q + g q) ns ≡ total f ns + total g ns
total-both f g [] = omega arith
total-both f g (n ∷ ns) = let rest = total-both f g ns in omega (arith, rest)

total-nothing : (ns : List ℕ) → total (λ _. 0) ns ≡ 0
total-nothing [] = omega arith
total-nothing (n ∷ ns) = let rest = total-nothing ns in omega (arith, rest)

-- so much at one number, and nothing at others
abbrev pub at_number : ℕ → ℕ → ℕ → ℕ
at_number n x q = if nat_eq q n then x else 0

at-same : (n x : ℕ) → at_number n x n ≡ x
at-same n x = ap (λ (t : Bool). if t then x else 0) (eq-eqb n n refl)

at-other : (n x q : ℕ) → q ≢ n → at_number n x q ≡ 0
at-other n x q other = ap (λ (t : Bool). if t then x else 0) (ne_eqb q n other)

total-below : (n x k m : ℕ) → n < k → total (at_number n x) (numbers k m) ≡ 0
total-below n x k zero low = omega arith
total-below n x k (suc m) low =
    let first = at-other n x k (λ same. omega (arith, low, same))
    in let rest = total-below n x (k + 1) m (omega (arith, low))
    in omega (arith, first, rest)

total-at : (n x k m : ℕ) → total (at_number n x) (numbers k m) ≤ x
total-at n x k zero = omega arith
total-at n x k (suc m) =
    elim (cases_eq k n) [
      | inl same ↦
          let first : at_number n x k ≡ x = subst (λ (i : ℕ). at_number n x i ≡ x) (sym same) (at-same n x)
          in let rest = total-below n x (k + 1) m (omega (arith, same))
          in omega (arith, first, rest)
      | inr other ↦
          let first = at-other n x k other
          in let rest = total-at n x (k + 1) m
          in omega (arith, first, rest)
    ]

total-has : (n x k m : ℕ) → k ≤ n → n < k + m → x ≤ total (at_number n x) (numbers k m)
total-has n x k zero low high = omega (arith, low, high)
total-has n x k (suc m) low high =
    elim (cases_eq k n) [
      | inl same ↦
          let first : at_number n x k ≡ x = subst (λ (i : ℕ). at_number n x i ≡ x) (sym same) (at-same n x)
          in omega (arith, first)
      | inr other ↦
          let rest = total-has n x (k + 1) m (omega (arith, low, other)) (omega (arith, high))
          in omega (arith, rest)
    ]

-- ---- numbers that are some of a list's

-- how many of these are made into a number
abbrev pub made_into : (ℕ → ℕ) → List ℕ → ℕ → ℕ
made_into f [] q = 0
made_into f (n ∷ ns) q = at_number (f n) 1 q + made_into f ns q

total-made : (f : ℕ → ℕ) (ns : List ℕ) (m : ℕ) → total (made_into f ns) (numbers 0 m) ≤ length ns
total-made f [] m = let none = total-nothing (numbers 0 m) in omega (arith, none)
total-made f (n ∷ ns) m =
    let both = total-both (at_number (f n) 1) (made_into f ns) (numbers 0 m)
    in let first = total-at (f n) 1 0 m
    in let rest = total-made f ns m
    in omega (arith, both, first, rest)

made-some : (f : ℕ → ℕ) (ns : List ℕ) (q : ℕ) → list_any (nat_eq q) (map f ns) ≡ true → 1 ≤ made_into f ns q
made-some f [] q h = absurd (false≢true h)
made-some f (n ∷ ns) q h =
    elim (or_cases (nat_eq q (f n)) (list_any (nat_eq q) (map f ns)) h) [
      | inl here ↦
          let first : at_number (f n) 1 q ≡ 1 = ap (λ (t : Bool). if t then 1 else 0) here
          in omega (arith, first)
      | inr later ↦ let rest = made-some f ns q later in omega (arith, rest)
    ]

-- ---- who is parked

-- the process of this number is parked
abbrev pub is_marked : Kernel → ℕ → Bool
is_marked k q = is_some (mark_in k.processes q)

-- how many processes of numbers below this one are parked
abbrev pub parked_below : ℕ → Kernel → ℕ
parked_below most k = total (λ q. one_if (is_marked k q)) (numbers 0 most)

-- so many of those who are woken are parked under a number
abbrev waits_of : Kernel → ℕ → List (ℕ × Reply) → ℕ → ℕ
waits_of k node [] q = 0
waits_of k node (w ∷ woken) q = at_number w.0 (length (wait_line k node w)) q + waits_of k node woken q

total-waits : (k : Kernel) (node : ℕ) (woken : List (ℕ × Reply)) (m : ℕ)
    → total (waits_of k node woken) (numbers 0 m) ≤ length (wait_lines k node woken)
total-waits k node [] m = let none = total-nothing (numbers 0 m) in omega (arith, none)
total-waits k node (w ∷ woken) m =
    let both = total-both (at_number w.0 (length (wait_line k node w))) (waits_of k node woken) (numbers 0 m)
    in let first = total-at w.0 (length (wait_line k node w)) 0 m
    in let rest = total-waits k node woken m
    in let whole = length-append (wait_line k node w) (wait_lines k node woken)
    in omega (arith, both, first, rest, whole)

marked-length : (node pid : ℕ) (o : Option Call) (reply : Reply)
    → length (marked_line node pid o reply) ≡ one_if (is_some o)
marked-length node pid None reply = refl
marked-length node pid (Some call) reply = refl

-- who is woken and is parked has a line
woken-has-line : (k : Kernel) (node : ℕ) (woken : List (ℕ × Reply)) (q : ℕ) → woken_in q woken ≡ true
    → one_if (is_marked k q) ≤ waits_of k node woken q
woken-has-line k node [] q h = absurd (false≢true h)
woken-has-line k node (w ∷ woken) q h =
    elim (or_cases (nat_eq q w.0) (woken_in q woken) h) [
      | inl here ↦
          let same : q ≡ w.0 = eqb-true q w.0 here
          in let mine : at_number w.0 (length (wait_line k node w)) q ≡ length (wait_line k node w) =
          ap (λ (t : Bool). if t then length (wait_line k node w) else 0) here
          in let line = marked-length node w.0 (mark_in k.processes w.0) w.1
          in let is : one_if (is_marked k q) ≡ one_if (is_marked k w.0) = ap (λ (i : ℕ). one_if (is_marked k i)) same
          in omega (arith, mine, line, is)
      | inr later ↦ let rest = woken-has-line k node woken q later in omega (arith, rest)
    ]

-- ---- an entry

abbrev pub parks_one : Option Reply → ℕ
parks_one None = 1
parks_one (Some reply) = 0

own-mark-one : (call : Call) (own : Option Reply) → one_if (is_some (own_mark call own)) ≡ parks_one own
own-mark-one call None = refl
own-mark-one call (Some reply) = refl

one-at-most : (b : Bool) → one_if b ≤ 1
one-at-most true = omega arith
one-at-most false = omega arith

module _ (k next : Kernel) (e : Entry) (moves : MovesMarks k e.pid e.call (successor next e.outcome)) where
  -- the caller has the mark of its call
  own-moves : mark_in next.processes e.pid ≡ own_mark e.call e.outcome.own
  own-moves =
      moves e.pid
      ∙ ap
      (λ (t : Bool).
      if t then own_mark e.call e.outcome.own
      else if woken_in e.pid e.outcome.woken then None else mark_in k.processes e.pid)
      (eq-eqb e.pid e.pid refl)

  other-moves : (q : ℕ) → q ≢ e.pid
      → mark_in next.processes q ≡ (if woken_in q e.outcome.woken then None else mark_in k.processes q)
  other-moves q other =
      moves q
      ∙ ap
      (λ (t : Bool).
      if t then own_mark e.call e.outcome.own
      else if woken_in q e.outcome.woken then None else mark_in k.processes q)
      (ne_eqb e.pid q (λ same. other (sym same)))

  -- a call that ends no wait is of a process that isn't parked
  call-marks : mark_in k.processes e.pid ≡ None → (q : ℕ)
      → one_if (is_marked k q) + at_number e.pid (parks_one e.outcome.own) q
      ≤ one_if (is_marked next q) + waits_of k e.by e.outcome.woken q
  call-marks unparked q =
      elim (cases_eq q e.pid) [
        | inl same ↦
            let before : one_if (is_marked k q) ≡ 0 =
            ap (λ (i : ℕ). one_if (is_marked k i)) same ∙ ap (λ (o : Option Call). one_if (is_some o)) unparked
            in let mine : at_number e.pid (parks_one e.outcome.own) q ≡ parks_one e.outcome.own =
            ap (at_number e.pid (parks_one e.outcome.own)) same ∙ at-same e.pid (parks_one e.outcome.own)
            in let after : one_if (is_marked next q) ≡ parks_one e.outcome.own =
            ap (λ (i : ℕ). one_if (is_marked next i)) same
            ∙ (ap (λ (o : Option Call). one_if (is_some o)) own-moves ∙ own-mark-one e.call e.outcome.own)
            in omega (arith, before, mine, after)
        | inr other ↦
            let none = at-other e.pid (parks_one e.outcome.own) q other
            in elim (cases_Bool (woken_in q e.outcome.woken)) [
              | inl woken ↦
                  let line = woken-has-line k e.by e.outcome.woken q woken
                  in omega (arith, none, line)
              | inr asleep ↦
                  let same : one_if (is_marked next q) ≡ one_if (is_marked k q) =
                  ap (λ (o : Option Call). one_if (is_some o))
                  (other-moves q other
                  ∙ ap (λ (t : Bool). if t then None else mark_in k.processes q) asleep)
                  in omega (arith, none, same)
            ]
      ]

  -- an end of a wait unparks its process alone
  withdrawal-marks : e.outcome.woken ≡ [] → (q : ℕ)
      → one_if (is_marked k q) ≤ one_if (is_marked next q) + at_number e.pid 1 q
  withdrawal-marks nobody q =
      elim (cases_eq q e.pid) [
        | inl same ↦
            let most = one-at-most (is_marked k q)
            in let mine : at_number e.pid 1 q ≡ 1 = ap (at_number e.pid 1) same ∙ at-same e.pid 1
            in omega (arith, most, mine)
        | inr other ↦
            let same : one_if (is_marked next q) ≡ one_if (is_marked k q) =
            ap (λ (o : Option Call). one_if (is_some o))
            (other-moves q other
            ∙ ap (λ (ws : List (ℕ × Reply)). if woken_in q ws then None else mark_in k.processes q) nobody)
            in omega (arith, same)
      ]

-- An entry has two lines for itself and who doesn't wait any more, or one more waits.
abbrev Pays : ℕ → Kernel → Kernel → Entry → Type 0
Pays most k next e = parked_below most k + 1 ≤ parked_below most next + 2 * length (lines_of k e)

lines-are : (k : Kernel) (e : Entry) (call : Call) → withdrawn_from call ≡ None
    → lines_by k e call ≡ own_line e.by e.pid call e.outcome.own ++ wait_lines k e.by e.outcome.woken
lines-are k e (calls.Withdraw name) h = absurd cc
lines-are k e call h = refl

own-lines : (node pid : ℕ) (call : Call) (own : Option Reply) → length (own_line node pid call own) + parks_one own ≡ 1
own-lines node pid call None = refl
own-lines node pid call (Some reply) = refl

is-parked : (pid : ℕ) (name : Name) (o : Option Call) → is_parked_at pid name o ≡ true → is_some o ≡ true
is-parked pid name None h = absurd (false≢true h)
is-parked pid name (Some call) h = refl

module _ (most : ℕ) (k next : Kernel) (fine : Fine k) (e : Entry) (low : e.pid < most)
    (step : transition k e.pid e.call (number_in e.outcome.own) ≡ Some (successor next e.outcome)) where
  moves : MovesMarks k e.pid e.call (successor next e.outcome)
  moves = entry-moves k fine e.pid e.call (number_in e.outcome.own) (successor next e.outcome) step

  call-pays : withdrawn_from e.call ≡ None → Pays most k next e
  call-pays call_is =
      let made = makes k e.pid e.call (number_in e.outcome.own) (successor next e.outcome) call_is step
      in let unparked : mark_in k.processes e.pid ≡ None =
      no-mark k e.pid made.alive (acts-by k e.pid made.alive e.call made.lives made.may)
      in let ns : List ℕ = numbers 0 most
      in let sums =
      total-less (λ q. one_if (is_marked k q) + at_number e.pid (parks_one e.outcome.own) q)
      (λ q. one_if (is_marked next q) + waits_of k e.by e.outcome.woken q) ns (call-marks k next e moves unparked)
      in let left = total-both (λ q. one_if (is_marked k q)) (at_number e.pid (parks_one e.outcome.own)) ns
      in let right = total-both (λ q. one_if (is_marked next q)) (waits_of k e.by e.outcome.woken) ns
      in let mine = total-has e.pid (parks_one e.outcome.own) 0 most (omega arith) (omega (arith, low))
      in let waits = total-waits k e.by e.outcome.woken most
      in let own = own-lines e.by e.pid e.call e.outcome.own
      in let all : length (lines_of k e)
      ≡ length (own_line e.by e.pid e.call e.outcome.own) + length (wait_lines k e.by e.outcome.woken) =
      ap length (lines-are k e e.call call_is)
      ∙ length-append (own_line e.by e.pid e.call e.outcome.own) (wait_lines k e.by e.outcome.woken)
      in omega (arith, sums, left, right, mine, waits, own, all)

  withdrawal-pays : (name : Name) → e.call ≡ calls.Withdraw name → Pays most k next e
  withdrawal-pays name is =
      let left =
      leaves k e.pid name (number_in e.outcome.own) (successor next e.outcome)
      (subst (λ (c : Call). transition k e.pid c (number_in e.outcome.own) ≡ Some (successor next e.outcome)) is step)
      in let outcome : e.outcome ≡ _ = sym (ap (λ (s : Successor). s.outcome) left.is)
      in let parked : is_marked k e.pid ≡ true =
      ap (λ o. is_some (mark_of o)) left.lives
      ∙ is-parked e.pid name left.alive.marks.parked (and_parts left.alive.marks.struck _ left.may).1
      in let ns : List ℕ = numbers 0 most
      in let sums =
      total-less (λ q. one_if (is_marked k q)) (λ q. one_if (is_marked next q) + at_number e.pid 1 q) ns
      (withdrawal-marks k next e moves (ap (λ (o : Outcome). o.woken) outcome))
      in let right = total-both (λ q. one_if (is_marked next q)) (at_number e.pid 1) ns
      in let mine = total-at e.pid 1 0 most
      in let line : length (lines_of k e) ≡ 1 =
      ap (λ (c : Call). length (lines_by k e c)) is
      ∙ (ap (λ (o : Outcome). length (withdrawn_line k e.by e.pid o.own)) outcome
      ∙ (marked-length e.by e.pid (mark_in k.processes e.pid) _ ∙ ap one_if parked))
      in omega (arith, sums, right, mine, line)

  pays : Pays most k next e
  pays = by e.call refl
    where
      by : (call : Call) → e.call ≡ call → Pays most k next e
      by (calls.Withdraw name) is = withdrawal-pays name is
      by call is = call-pays (ap withdrawn_from is)

-- ---- a history

-- a number above those of all processes that have an entry
abbrev pub above_all : List Entry → ℕ
above_all [] = 0
above_all (e ∷ es) = (e.pid + 1) + above_all es

-- each has a number below this one
abbrev Below : ℕ → List Entry → Type 0
Below most [] = Unit {0}
Below most (e ∷ es) = (e.pid < most) × Below most es

below-more : (most more : ℕ) (es : List Entry) → most ≤ more → Below most es → Below more es
below-more most more [] le all = tt
below-more most more (e ∷ es) le all =
    let first = all.0 in (omega (arith, le, first), below-more most more es le all.1)

all-below : (es : List Entry) → Below (above_all es) es
all-below [] = tt
all-below (e ∷ es) = (
  omega arith,
  below-more (above_all es) (above_all (e ∷ es)) es (omega arith) (all-below es),
)

replays-more : (h : List Entry) (e : Entry) (k last next : Kernel) → Replays k h last
    → transition last e.pid e.call (number_in e.outcome.own) ≡ Some (successor next e.outcome)
    → Replays k (h ++ e ∷ []) next
replays-more [] e k last next r step =
    record {
      next = next;
      step =
          subst
          (λ (x : Kernel). transition x e.pid e.call (number_in e.outcome.own) ≡ Some (successor next e.outcome))
          (sym r) step;
      rest = refl;
    }
replays-more (f ∷ h) e k last next r step =
    record { next = r.next; step = r.step; rest = replays-more h e r.next last next r.rest step }

-- the history so far isn't too long
abbrev IsPaid : ℕ → List Entry → Kernel → Type 0
IsPaid most h k = length h ≤ 2 * length (in_line h) + parked_below most k

paid-along : (most : ℕ) (h es : List Entry) (k last : Kernel) → Below most es → Replays opening h k → Replays k es last
    → IsPaid most h k → IsPaid most (h ++ es) last
paid-along most h [] k last low before r paid =
    subst (λ (x : Kernel). IsPaid most (h ++ []) x) r
    (subst (λ (xs : List Entry). IsPaid most xs k) (sym (append-nil h)) paid)
paid-along most h (e ∷ es) k last low before r paid =
    let sound = reached h k before
    in let cost = pays most k r.next (sound-fine k sound.sound) e low.0 r.step
    in let lines : length (in_line (h ++ e ∷ [])) ≡ length (in_line h) + length (lines_of k e) =
    ap length (lines-go-on h k e r.next before r.step) ∙ length-append (in_line h) (lines_of k e)
    in let one = length-append h (e ∷ [])
    in subst (λ (xs : List Entry). IsPaid most xs last) (append_assoc h (e ∷ []) es)
    (paid-along most (h ++ e ∷ []) es r.next last low.1 (replays-more h e opening k r.next before r.step) r.rest
    (omega (arith, paid, cost, lines, one)))

-- A legal history has at most two entries for each line, and one for each who waits then.
pub history-is-paid : (h : List Entry) (last : Kernel) → Replays opening h last
    → length h ≤ 2 * length (in_line h) + parked_below (above_all h) last
history-is-paid h last r =
    paid-along (above_all h) [] h opening last (all-below h) refl r (omega arith)

-- Who waits is made of these numbers, so there are no more than these.
pub parked-are-few : (f : ℕ → ℕ) (ns : List ℕ) (most : ℕ) (k : Kernel)
    → ((q : ℕ) → is_marked k q ≡ true → list_any (nat_eq q) (map f ns) ≡ true)
    → parked_below most k ≤ length ns
parked-are-few f ns most k each =
    let sums =
    total-less (λ q. one_if (is_marked k q)) (made_into f ns) (numbers 0 most)
    (λ q. elim (cases_Bool (is_marked k q)) [
      | inl marked ↦
          let some = made-some f ns q (each q marked)
          in let one = one-at-most (is_marked k q)
          in omega (arith, some, one)
      | inr free ↦ let none : one_if (is_marked k q) ≡ 0 = ap one_if free in omega (arith, none)
    ])
    in let made = total-made f ns most
    in omega (arith, sums, made)
