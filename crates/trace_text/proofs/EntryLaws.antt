-- A line is read exactly where it is the text of an entry in the grammar, as that entry.
use Rattle.std.proofs.Common.{◌≡◌, ℕ, ◌≤◌, true, false, ◌&&◌, leb, List, [], ◌∷◌, ◌++◌, length, Option, Some, None, refl, sym, ap, subst, ◌∙◌, append_assoc, arith}
use Rattle.std.specs.Prelude.{codes, decimal, bytes_eq}
use Rattle.std.specs.List.{AllByRecursion, flat_map, list_all}
use Rattle.std.specs.Option.{option_map_or}
use Rattle.std.proofs.lemmas.Bool.{and_parts, leb-true, le-leb}
use Rattle.std.proofs.lemmas.List.{append-nil}
use Rattle.std.proofs.lemmas.Option.{same_Some}
use Rattle.std.proofs.lemmas.Slice.Eq.{bytes_eq-Decides}
use Rattle.pico_base.specs.declared.call.Call.{Call}
use Rattle.pico_base.specs.declared.reply.Entry.{Entry}
use Rattle.pico_base.specs.declared.reply.Outcome.{Outcome}
use Rattle.pico_base.specs.declared.reply.Reply.{Reply}
use Rattle.pico_base.specs.declared.script.Script.{Script}
use Rattle.kernel_model.specs.Numbers.{is_u32, is_between}
use Rattle.kernel_model.specs.Script.{IsSoundScript}
use Rattle.kernel_model.specs.Trace.{call_text, reply_text, own_text, wake_text, entry_line}
use Rattle.text_fields.specs.Fields.{digit_at, number_at, named_at, many, set_at}
use Rattle.text_fields.proofs.Chains.{bind_some, chosen}
use Rattle.quoted_bytes.proofs.Strips.{strip_takes, strip_again}
use Rattle.quoted_bytes.specs.Front.{strip}
use Rattle.text_fields.proofs.Many.{many-again, parts-room}
use Rattle.text_fields.proofs.Numerals.{front_number_again}
use Rattle.trace_text.specs.Grammar.{is_call, is_reply, is_own, is_wake, is_outcome, is_entry}
use Rattle.trace_text.specs.Reading.{word_reply_at, reply_at, made_at, own_at, by_at, wake_at, wakes_at, entry_of, replied_at, entry_at, is_line, entry_if, entry_in}
use Rattle.trace_text.proofs.Ranges.{u32-bound, all-from}
use Rattle.trace_text.proofs.CallText.{call-again}
use Rattle.trace_text.proofs.ReplyLaws.{EndsReply, by-ends, wakes-end, nothing-ends, reply-again}

-- a line without its line feed
abbrev pub line_of : Script → ℕ → Call → Option Reply → ℕ → List (ℕ × Reply) → List ℕ
line_of script pid call own node woken =
    decimal pid ++ 32 ∷ (call_text script call
    ++ (codes " = " ++ (own_text own ++ (codes " by " ++ (decimal node ++ flat_map wake_text woken)))))

blank-ends : (rest : List ℕ) → digit_at (32 ∷ rest) ≡ None
unfolding digit_at
blank-ends rest = refl

by-again : (node : ℕ) (rest : List ℕ) → 1 ≤ node → node ≤ 32 → digit_at rest ≡ None
    → by_at (codes " by " ++ (decimal node ++ rest)) ≡ Some (node, rest)
unfolding by_at
by-again node rest low high ends =
    rw (
      strip_again (codes " by ") (decimal node ++ rest),
      front_number_again 32 node rest high (omega arith) ends,
      le-leb 1 node low,
    ) refl

-- the process and its call in front of a line are read back
pub made-again : (script : Script) (pid : ℕ) (call : Call) (more : List ℕ) → IsSoundScript script → pid ≤ 4294967295
    → is_call script call ≡ true
    → made_at script (decimal pid ++ 32 ∷ (call_text script call ++ 32 ∷ 61 ∷ more))
    ≡ Some ((pid, call), 32 ∷ 61 ∷ more)
unfolding made_at
made-again script pid call more sound small h =
    let rest : List ℕ = call_text script call ++ 32 ∷ 61 ∷ more in
    rw (
      front_number_again 4294967295 pid (32 ∷ rest) small (omega arith) (blank-ends rest),
      strip_again (codes " ") rest,
      call-again script call more sound h,
    ) refl

-- ---- what the call came to

-- no reply begins like `parked`
no-reply : (rest : List ℕ) → reply_at (codes "parked" ++ rest) ≡ None
unfolding reply_at word_reply_at number_at digit_at strip named_at set_at
no-reply rest = refl

own-again : (own : Option Reply) (rest : List ℕ) → is_own own ≡ true → EndsReply rest
    → own_at (own_text own ++ rest) ≡ Some (own, rest)
unfolding own_at
own-again None rest h ends = rw (no-reply rest, strip_again (codes "parked") rest) refl
own-again (Some reply) rest h ends = rw (reply-again rest ends reply h) refl

wake-again : (wake : ℕ × Reply) (rest : List ℕ) → is_wake wake ≡ true → EndsReply rest
    → wake_at (wake_text wake ++ rest) ≡ Some (wake, rest)
unfolding wake_at
wake-again wake rest h ends =
    let p = and_parts (is_u32 wake.0) (is_reply wake.1) h in
    let reply : List ℕ = reply_text wake.1 ++ rest in
    let front : wake_text wake ++ rest ≡ codes " wakes " ++ (decimal wake.0 ++ 32 ∷ reply) =
    ap (λ (w : List ℕ). codes " wakes " ++ w) (append_assoc (decimal wake.0) (32 ∷ reply_text wake.1) rest) in
    rw (
      front,
      strip_again (codes " wakes ") (decimal wake.0 ++ 32 ∷ reply),
      front_number_again 4294967295 wake.0 (32 ∷ reply) (u32-bound wake.0 p.0) (omega arith) (blank-ends reply),
      strip_again (codes " ") reply,
      reply-again rest ends wake.1 p.1,
    ) refl

no-wake : wake_at [] ≡ None
unfolding wake_at strip
no-wake = refl

-- behind a reply stand the callers that are woken, or nothing
wakes-or-nothing : (wakes : List (ℕ × Reply)) → EndsReply (flat_map wake_text wakes ++ [])
wakes-or-nothing [] = nothing-ends
wakes-or-nothing (wake ∷ wakes) = wakes-end _

wakes-again : (wakes : List (ℕ × Reply)) → list_all is_wake wakes ≡ true
    → wakes_at (flat_map wake_text wakes) ≡ (wakes, [])
wakes-again wakes h =
    let bytes : List ℕ = flat_map wake_text wakes in
    let all : AllByRecursion (λ wake. is_wake wake ≡ true) wakes =
    all-from is_wake (λ wake. is_wake wake ≡ true) (λ wake k. k) wakes h in
    let whole : bytes ++ [] ≡ bytes = append-nil bytes in
    let room : length wakes ≤ length (bytes ++ []) =
    parts-room wake_at wake_text (λ wake. is_wake wake ≡ true) EndsReply wakes [] (λ wake _. omega arith) all in
    ap (many wake_at (length bytes)) (sym whole)
    ∙ many-again wake_at wake_text (λ wake. is_wake wake ≡ true) EndsReply (length bytes) wakes [] wake-again
    wakes-or-nothing no-wake all (omega (arith, room, ap length whole))

replied-again : (pid : ℕ) (call : Call) (own : Option Reply) (node : ℕ) (woken : List (ℕ × Reply))
    → is_own own ≡ true → list_all is_wake woken ≡ true → 1 ≤ node → node ≤ 32
    → replied_at (pid, call)
    (codes " = " ++ (own_text own ++ (codes " by " ++ (decimal node ++ flat_map wake_text woken))))
    ≡ Some (entry_of (pid, call) own node woken)
replied-again pid call own node woken o w low high =
    let wakes : List ℕ = flat_map wake_text woken in
    let by : List ℕ = codes " by " ++ (decimal node ++ wakes) in
    let ends : EndsReply wakes = subst EndsReply (append-nil wakes) (wakes-or-nothing woken) in
    rw (
      strip_again (codes " = ") (own_text own ++ by),
      own-again own by o (by-ends (121 ∷ 32 ∷ (decimal node ++ wakes))),
      by-again node wakes low high ends.digit,
      wakes-again woken w,
    ) refl

-- ---- lines

entry-again : (script : Script) (pid : ℕ) (call : Call) (own : Option Reply) (node : ℕ) (woken : List (ℕ × Reply))
    → IsSoundScript script → pid ≤ 4294967295 → is_call script call ≡ true → is_own own ≡ true
    → list_all is_wake woken ≡ true → 1 ≤ node → node ≤ 32
    → entry_at script (line_of script pid call own node woken) ≡ Some (entry_of (pid, call) own node woken)
unfolding entry_at
entry-again script pid call own node woken sound small c o w low high =
    let by : List ℕ = codes " by " ++ (decimal node ++ flat_map wake_text woken) in
    rw (made-again script pid call (32 ∷ (own_text own ++ by)) sound small c)
    (replied-again pid call own node woken o w low high)

-- the text of an entry
pub line-is : (script : Script) (e : Entry)
    → entry_line script e ≡ line_of script e.pid e.call e.outcome.own e.by e.outcome.woken ++ 10 ∷ []
line-is script e = simp append_assoc

-- what an entry in the grammar has
pub record IsInGrammar (script : Script) (e : Entry) : Type 0 where
  pub pid : e.pid ≤ 4294967295
  pub call : is_call script e.call ≡ true
  pub outcome : is_outcome e.outcome ≡ true
  pub own : is_own e.outcome.own ≡ true
  pub woken : list_all is_wake e.outcome.woken ≡ true
  pub low : 1 ≤ e.by
  pub high : e.by ≤ 32

-- an entry that the test passes has a text
pub in-grammar : (script : Script) (e : Entry) → is_entry script e ≡ true → IsInGrammar script e
in-grammar script e h =
    let p = and_parts (is_u32 e.pid) (is_call script e.call && (is_outcome e.outcome && is_between 1 32 e.by)) h in
    let q = and_parts (is_call script e.call) (is_outcome e.outcome && is_between 1 32 e.by) p.1 in
    let r = and_parts (is_outcome e.outcome) (is_between 1 32 e.by) q.1 in
    let o = and_parts (is_own e.outcome.own) (list_all is_wake e.outcome.woken) r.0 in
    let n = and_parts (leb 1 e.by) (leb e.by 32) r.1 in
    record {
      pid = u32-bound e.pid p.0;
      call = q.0;
      outcome = r.0;
      own = o.0;
      woken = o.1;
      low = leb-true 1 e.by n.0;
      high = leb-true e.by 32 n.1;
    }

-- what passes the test for a line is that line and a line feed
pub line-tested : (printed line : List ℕ) → is_line printed line ≡ true → printed ≡ line ++ 10 ∷ []
line-tested printed line h = of (strip line printed) refl h
  where
    of : (o : Option (List ℕ)) → strip line printed ≡ o → option_map_or (λ rest. bytes_eq rest (10 ∷ [])) o false ≡ true
        → printed ≡ line ++ 10 ∷ []
    of None e t = absurd (cc)
    of (Some rest) e t = strip_takes line printed rest e
        ∙ ap (λ (x : List ℕ). line ++ x) ((bytes_eq-Decides rest (10 ∷ [])).0 t)

-- a line and a line feed pass the test for that line
pub line-again : (line : List ℕ) → is_line (line ++ 10 ∷ []) line ≡ true
line-again line = rw (strip_again line (10 ∷ [])) refl

-- what is read is in the grammar, and its text is the line
pub entry-takes : (script : Script) (line : List ℕ) (e : Entry) → entry_in script line ≡ Some e
    → (is_entry script e ≡ true) × (entry_line script e ≡ line ++ 10 ∷ [])
unfolding entry_in
entry-takes script line e h =
    let b = bind_some (entry_at script line) (entry_if script line) e h in
    let t = chosen (is_entry script b.0 && is_line (entry_line script b.0) line) (Some b.0) e b.2 in
    let p = and_parts (is_entry script b.0) (is_line (entry_line script b.0) line) t.0 in
    let same : b.0 ≡ e = same_Some b.0 e t.1 in (
      ap (is_entry script) (sym same) ∙ p.0,
      ap (entry_line script) (sym same) ∙ line-tested (entry_line script b.0) line p.1,
    )

-- two texts that end by the same byte are the same before it
same-front : (xs ys : List ℕ) (b : ℕ) → xs ++ b ∷ [] ≡ ys ++ b ∷ [] → xs ≡ ys
same-front [] [] b h = refl
same-front [] (y ∷ []) b h = absurd (omega (arith, ap length h))
same-front [] (y ∷ z ∷ ys) b h = absurd (omega (arith, ap length h))
same-front (x ∷ []) [] b h = absurd (omega (arith, ap length h))
same-front (x ∷ z ∷ xs) [] b h = absurd (omega (arith, ap length h))
same-front (x ∷ xs) (y ∷ ys) b h =
    let first : x ≡ y = cc in
    let rest : xs ++ b ∷ [] ≡ ys ++ b ∷ [] = cc in
    rw (first, same-front xs ys b rest) refl

-- the text of an entry in the grammar is read as that entry
pub entry-reads : (script : Script) (line : List ℕ) (e : Entry) → IsSoundScript script → is_entry script e ≡ true
    → entry_line script e ≡ line ++ 10 ∷ [] → entry_in script line ≡ Some e
unfolding entry_in
entry-reads script line e sound h text =
    let a = in-grammar script e h in
    let printed : List ℕ = line_of script e.pid e.call e.outcome.own e.by e.outcome.woken in
    let whole : line ≡ printed = same-front line printed 10 (sym text ∙ line-is script e) in
    let o : Outcome = e.outcome in
    let read : entry_at script line ≡ Some e =
    ap (entry_at script) whole
    ∙ entry-again script e.pid e.call o.own e.by o.woken sound a.pid a.call a.own a.woken a.low a.high in
    let test : is_line (entry_line script e) line ≡ true = ap (λ (x : List ℕ). is_line x line) text ∙ line-again line in
    rw (read, h, test) refl
