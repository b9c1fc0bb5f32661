-- The script of System V that runs a sound script is sound.
use Rattle.std.proofs.Common.{◌≡◌, ℕ, ◌+◌, ◌-◌, ℤ, pos, negsuc, Bool, true, false, ◌&&◌, ◌||◌, not, cond, leb, List, [], ◌∷◌, ◌++◌, map, length, Option, None, refl, sym, ap, subst, ◌∙◌, arith}
use Rattle.std.specs.Prelude.{nat_eq, nat_lt, nat_le, count_by, sum_by, is_some}
use Rattle.std.specs.List.{list_all, list_any, enumerate_from}
use Rattle.std.proofs.lemmas.Bool.{and_parts, and_from}
use Rattle.std.proofs.lemmas.List.{length-map}
use Rattle.std.proofs.lemmas.List.Sums.{sum_by-append}
use Rattle.pico_base.specs.declared.call.Call.{Call}
use Rattle.pico_base.specs.declared.call.Call.TheVariants as calls
use Rattle.pico_base.specs.declared.script.Block.{Block}
use Rattle.pico_base.specs.declared.script.Line.{Line}
use Rattle.pico_base.specs.declared.script.Script.{Script}
use Rattle.kernel_model.specs.Script as model
use Rattle.kernel_model.specs.Script.{IsSoundScript, Fork, fork_from, fork_targets}
use Rattle.kernel_model.specs.Numbers.{is_u16, is_u32}
use Rattle.kernel_model.specs.Texts.{has_spelling}
use Rattle.script_reader.proofs.Ranges.{is_type_from}
use Rattle.script_reader.proofs.Forked.{targets, forks_of_lines, forks_from}
use Rattle.mq_model.specs.SystemV.{refusal_of_send, refusal_of, turned_class, system_v_call, system_v_line, system_v_block, system_v}

-- ---- calls

-- a call that the arguments refuse is another
is_either : {A : Type 0} (f : Call → A) (b : Bool) (x y : Call) (z : A) → f x ≡ z → f y ≡ z → f (cond b x y) ≡ z
is_either f true x y z e g = e
is_either f false x y z e g = g

-- what is asked of a call that sends or receives is what is asked of each call that stands for it
module _ {A : Type 0} (f : Call → A)
    (sends : (id : ℕ) (class : ℤ) (text : List ℕ) (nowait : Bool)
    → f (calls.MsgSnd id class text nowait) ≡ f calls.SigPending)
    (receives : (id : ℕ) (class : ℤ) (size : ℕ) (noerror nowait : Bool)
    → f (calls.MsgRcv id class size noerror nowait) ≡ f calls.SigPending) where
  pub same_call : (call : Call) → f (system_v_call call) ≡ f call
  same_call (calls.MsgSnd id class text nowait) =
      is_either f (is_some (refusal_of_send class text)) calls.SigPending
      (calls.MsgSnd id (turned_class class) text true) (f (calls.MsgSnd id class text nowait))
      (sym (sends id class text nowait)) (sends id (turned_class class) text true ∙ sym (sends id class text nowait))
  same_call (calls.MsgRcv id class size noerror nowait) =
      is_either f (is_some (refusal_of (calls.MsgRcv id class size noerror nowait))) calls.SigPending
      (calls.MsgRcv id (negsuc 31) size false true) (f (calls.MsgRcv id class size noerror nowait))
      (sym (receives id class size noerror nowait))
      (receives id (negsuc 31) size false true ∙ sym (receives id class size noerror nowait))
  same_call call = refl

same_exit : (call : Call) → model.is_exit (system_v_call call) ≡ model.is_exit call
same_exit call = same_call model.is_exit (λ id class text nowait. refl) (λ id class size noerror nowait. refl) call

same_fork : (call : Call) → model.is_fork (system_v_call call) ≡ model.is_fork call
same_fork call = same_call model.is_fork (λ id class text nowait. refl) (λ id class size noerror nowait. refl) call

same_targets : (call : Call) → fork_targets (system_v_call call) ≡ fork_targets call
same_targets call = same_call fork_targets (λ id class text nowait. refl) (λ id class size noerror nowait. refl) call

-- ---- lines

record LineParts (line : Line) : Type 0 where
  tries : (leb 1 line.tries && leb line.tries 20000) ≡ true
  once : model.is_tried_once line ≡ true
  sets : model.sets_rightly line ≡ true
  range : model.is_in_range line.call ≡ true
  named : cond (is_some line.from) (model.can_name line.call) (model.is_process_in_range line.call) ≡ true
  set : model.is_variable line.set ≡ true
  from : model.is_variable line.from ≡ true

abbrev named_in : Line → Bool
named_in line = cond (is_some line.from) (model.can_name line.call) (model.is_process_in_range line.call)

abbrev variables_in : Line → Bool
variables_in line = model.is_variable line.set && model.is_variable line.from

parts_of : (line : Line) → model.is_line line ≡ true → LineParts line
parts_of line h =
    let a = and_parts (leb 1 line.tries && leb line.tries 20000)
    (model.is_tried_once line
    && (model.sets_rightly line && (model.is_in_range line.call && (named_in line && variables_in line)))) h in
    let b = and_parts (model.is_tried_once line)
    (model.sets_rightly line && (model.is_in_range line.call && (named_in line && variables_in line))) a.1 in
    let c = and_parts (model.sets_rightly line)
    (model.is_in_range line.call && (named_in line && variables_in line)) b.1 in
    let d = and_parts (model.is_in_range line.call) (named_in line && variables_in line) c.1 in
    let e = and_parts (named_in line) (variables_in line) d.1 in
    let f = and_parts (model.is_variable line.set) (model.is_variable line.from) e.1 in
    record { tries = a.0; once = b.0; sets = c.0; range = d.0; named = e.0; set = f.0; from = f.1 }

line_of : (line : Line) → LineParts line → model.is_line line ≡ true
line_of line p =
    and_from (leb 1 line.tries && leb line.tries 20000)
    (model.is_tried_once line
    && (model.sets_rightly line && (model.is_in_range line.call && (named_in line && variables_in line)))) p.tries
    (and_from (model.is_tried_once line)
    (model.sets_rightly line && (model.is_in_range line.call && (named_in line && variables_in line))) p.once
    (and_from (model.sets_rightly line) (model.is_in_range line.call && (named_in line && variables_in line)) p.sets
    (and_from (model.is_in_range line.call) (named_in line && variables_in line) p.range
    (and_from (named_in line) (variables_in line) p.named
    (and_from (model.is_variable line.set) (model.is_variable line.from) p.set p.from)))))

turned_type : (class : ℤ) → model.is_type class ≡ true → model.is_type (turned_class class) ≡ true
turned_type (pos n) h = is_type_from (pos (32 - n)) (omega arith)
turned_type (negsuc n) h = h

abbrev line_with : Option ℕ → ℕ → Option ℕ → Call → Line
line_with set tries from call = record { set = set; tries = tries; from = from; call = call }

-- a refused call becomes a look at the pending signals
refused : (set : Option ℕ) (tries : ℕ) (from : Option ℕ) (call : Call) → LineParts (line_with set tries from call)
    → model.is_fork call ≡ false → model.is_exit call ≡ false
    → LineParts (line_with set tries None calls.SigPending)
refused set tries from call p fork exit =
    let neither : false ≡ (model.is_fork call || model.is_exit call) = rw (fork, exit) refl in
    record {
      tries = p.tries;
      once = ap (λ (b : Bool). nat_eq tries 1 || not b) neither ∙ p.once;
      sets = ap (λ (b : Bool). not (is_some set && b)) (sym exit) ∙ p.sets;
      range = refl;
      named = refl;
      set = p.set;
      from = refl;
    }

sent : (set : Option ℕ) (tries : ℕ) (from : Option ℕ) (id : ℕ) (class : ℤ) (text : List ℕ) (nowait b : Bool)
    → LineParts (line_with set tries from (calls.MsgSnd id class text nowait))
    → LineParts (line_with set tries (cond b None from)
    (cond b calls.SigPending (calls.MsgSnd id (turned_class class) text true)))
sent set tries from id class text nowait true p =
    refused set tries from (calls.MsgSnd id class text nowait) p refl refl
sent set tries from id class text nowait false p =
    let r = and_parts (is_u32 id) (model.is_type class && has_spelling text) p.range in
    let q = and_parts (model.is_type class) (has_spelling text) r.1 in
    record {
      tries = p.tries;
      once = p.once;
      sets = p.sets;
      range = and_from (is_u32 id) (model.is_type (turned_class class) && has_spelling text) r.0
          (and_from (model.is_type (turned_class class)) (has_spelling text) (turned_type class q.0) q.1);
      named = p.named;
      set = p.set;
      from = p.from;
    }

received : (set : Option ℕ) (tries : ℕ) (from : Option ℕ) (id : ℕ) (class : ℤ) (size : ℕ) (noerror nowait b : Bool)
    → LineParts (line_with set tries from (calls.MsgRcv id class size noerror nowait))
    → LineParts (line_with set tries (cond b None from)
    (cond b calls.SigPending (calls.MsgRcv id (negsuc 31) size false true)))
received set tries from id class size noerror nowait true p =
    refused set tries from (calls.MsgRcv id class size noerror nowait) p refl refl
received set tries from id class size noerror nowait false p =
    let r = and_parts (is_u32 id) (model.is_type class && is_u16 size) p.range in
    let q = and_parts (model.is_type class) (is_u16 size) r.1 in
    record {
      tries = p.tries;
      once = p.once;
      sets = p.sets;
      range = and_from (is_u32 id) (model.is_type (negsuc 31) && is_u16 size) r.0
          (and_from (model.is_type (negsuc 31)) (is_u16 size) (is_type_from (negsuc 31) (omega arith)) q.1);
      named = p.named;
      set = p.set;
      from = p.from;
    }

line_by_call : (set : Option ℕ) (tries : ℕ) (from : Option ℕ) (call : Call)
    → model.is_line (line_with set tries from call) ≡ true
    → model.is_line (system_v_line (line_with set tries from call)) ≡ true
line_by_call set tries from (calls.MsgSnd id class text nowait) h =
    line_of (system_v_line (line_with set tries from (calls.MsgSnd id class text nowait)))
    (sent set tries from id class text nowait (is_some (refusal_of_send class text))
    (parts_of (line_with set tries from (calls.MsgSnd id class text nowait)) h))
line_by_call set tries from (calls.MsgRcv id class size noerror nowait) h =
    line_of (system_v_line (line_with set tries from (calls.MsgRcv id class size noerror nowait)))
    (received set tries from id class size noerror nowait
    (is_some (refusal_of (calls.MsgRcv id class size noerror nowait)))
    (parts_of (line_with set tries from (calls.MsgRcv id class size noerror nowait)) h))
line_by_call set tries from call h = h

line_kept : (line : Line) → model.is_line line ≡ true → model.is_line (system_v_line line) ≡ true
line_kept line h = line_by_call line.set line.tries line.from line.call h

targets_kept : (lines : List Line) → targets (map system_v_line lines) ≡ targets lines
targets_kept [] = refl
targets_kept (l ∷ lines) =
    ap (λ (ts : List ℕ). ts ++ targets (map system_v_line lines)) (same_targets l.call)
    ∙ ap (λ (ts : List ℕ). fork_targets l.call ++ ts) (targets_kept lines)

ends_kept : (lines : List Line) → model.ends_rightly (map system_v_line lines) ≡ model.ends_rightly lines
ends_kept [] = refl
ends_kept (l ∷ lines) = rw (same_exit l.call, length-map lines system_v_line, ends_kept lines) refl

abbrev tries_in : List Line → ℕ
tries_in lines = sum_by (λ (line : Line). line.tries) lines

tries_more : (line : Line) (lines : List Line) → tries_in (line ∷ lines) ≡ line.tries + tries_in lines
tries_more line lines = omega (arith, sum_by-append (λ (line : Line). line.tries) (line ∷ []) lines)

tries_by : (line : Line) (b : Bool) (xs ys : List Line) → tries_in xs ≡ tries_in ys
    → tries_in (cond b (system_v_line line ∷ []) (system_v_line line ∷ xs)) ≡ tries_in (cond b (line ∷ []) (line ∷ ys))
tries_by line true xs ys e = refl
tries_by line false xs ys e =
    tries_more (system_v_line line) xs ∙ ap (λ (n : ℕ). line.tries + n) e ∙ sym (tries_more line ys)

tries_kept : (lines : List Line)
    → tries_in (model.with_exit (map system_v_line lines)) ≡ tries_in (model.with_exit lines)
tries_kept [] = refl
tries_kept (l ∷ lines) =
    let rest : List Line = model.with_exit (map system_v_line lines) in
    ap (λ (b : Bool). tries_in (cond b (system_v_line l ∷ []) (system_v_line l ∷ rest))) (same_exit l.call)
    ∙ tries_by l (model.is_exit l.call) rest (model.with_exit lines) (tries_kept lines)

-- ---- variables

known_from : (known : List ℕ) (b : Bool) (o : Option ℕ) → model.is_known known o ≡ true
    → model.is_known known (cond b None o) ≡ true
known_from known true o h = refl
known_from known false o h = h

uses_kept : (known : List ℕ) (lines : List Line) → model.uses_known known lines ≡ true
    → model.uses_known known (map system_v_line lines) ≡ true
uses_kept known [] h = refl
uses_kept known (l ∷ lines) h =
    let next : List ℕ = model.known_with known l.set in
    let from : Option ℕ = cond (is_some (refusal_of l.call)) None l.from in
    let p = and_parts (model.is_known known l.from) (model.uses_known next lines) h in
    and_from (model.is_known known from) (model.uses_known next (map system_v_line lines))
    (known_from known (is_some (refusal_of l.call)) l.from p.0) (uses_kept next lines p.1)

begun_kept : (known : List ℕ) (lines : List Line)
    → model.begun_in known (map system_v_line lines) ≡ model.begun_in known lines
begun_kept known [] = refl
begun_kept known (l ∷ lines) =
    let next : List ℕ = model.known_with known l.set in
    ap (λ (ts : List ℕ). map (λ (block : ℕ). (block, next)) ts ++ model.begun_in next (map system_v_line lines))
    (same_targets l.call)
    ∙ ap (λ (bs : List (ℕ × List ℕ)). map (λ (block : ℕ). (block, next)) (fork_targets l.call) ++ bs)
    (begun_kept next lines)

uses_from_kept : (begun : List (ℕ × List ℕ)) (k : ℕ) (blocks : List Block)
    → model.uses_known_from begun k blocks ≡ true → model.uses_known_from begun k (map system_v_block blocks) ≡ true
uses_from_kept begun k [] h = refl
uses_from_kept begun k (b ∷ blocks) h =
    let known : List ℕ = model.known_at begun k in
    let more : List (ℕ × List ℕ) = begun ++ model.begun_in known b.lines in
    let p = and_parts (model.uses_known known b.lines) (model.uses_known_from more (k + 1) blocks) h in
    and_from (model.uses_known known (map system_v_line b.lines))
    (model.uses_known_from (begun ++ model.begun_in known (map system_v_line b.lines)) (k + 1)
    (map system_v_block blocks)) (uses_kept known b.lines p.0)
    (subst
    (λ (bs : List (ℕ × List ℕ)). model.uses_known_from (begun ++ bs) (k + 1) (map system_v_block blocks) ≡ true)
    (sym (begun_kept known b.lines)) (uses_from_kept more (k + 1) blocks p.1))

-- ---- blocks

passes : {A : Type 0} (p : A → Bool) (f : A → A) (xs : List A) → ((x : A) → p x ≡ true → p (f x) ≡ true)
    → list_all p xs ≡ true → list_all p (map f xs) ≡ true
passes p f [] h t = refl
passes p f (x ∷ xs) h t =
    let q = and_parts (p x) (list_all p xs) t in
    and_from (p (f x)) (list_all p (map f xs)) (h x q.0) (passes p f xs h q.1)

same_names : (x : List ℕ) (blocks : List Block)
    → list_any (λ (other : Block). model.is_same x other.name) (map system_v_block blocks)
    ≡ list_any (λ (other : Block). model.is_same x other.name) blocks
same_names x [] = refl
same_names x (b ∷ blocks) = ap (λ (r : Bool). model.is_same x b.name || r) (same_names x blocks)

apart_kept : (blocks : List Block) → model.names_differ (map system_v_block blocks) ≡ model.names_differ blocks
apart_kept [] = refl
apart_kept (b ∷ blocks) =
    ap (λ (r : Bool). not r && model.names_differ (map system_v_block blocks)) (same_names b.name blocks)
    ∙ ap (λ (r : Bool). not (list_any (λ (other : Block). model.is_same b.name other.name) blocks) && r)
    (apart_kept blocks)

forks_kept : (k : ℕ) (blocks : List Block) → forks_from k (map system_v_block blocks) ≡ forks_from k blocks
forks_kept k [] = refl
forks_kept k (b ∷ blocks) =
    ap (λ (ts : List ℕ). map (fork_from k) ts ++ forks_from (k + 1) (map system_v_block blocks))
    (targets_kept b.lines)
    ∙ ap (λ (fs : List Fork). forks_of_lines k b.lines ++ fs) (forks_kept (k + 1) blocks)

places_kept : (test : ℕ → Bool) (k : ℕ) (blocks : List Block)
    → list_all (λ (b : ℕ × Block). test b.0) (enumerate_from k (map system_v_block blocks))
    ≡ list_all (λ (b : ℕ × Block). test b.0) (enumerate_from k blocks)
places_kept test k [] = refl
places_kept test k (b ∷ blocks) = ap (λ (r : Bool). test k && r) (places_kept test (k + 1) blocks)

calls_more : (block : Block) (blocks : List Block)
    → sum_by model.calls_in (block ∷ blocks) ≡ model.calls_in block + sum_by model.calls_in blocks
calls_more block blocks = omega (arith, sum_by-append model.calls_in (block ∷ []) blocks)

calls_kept : (blocks : List Block)
    → sum_by model.calls_in (map system_v_block blocks) ≡ sum_by model.calls_in blocks
calls_kept [] = refl
calls_kept (b ∷ blocks) =
    calls_more (system_v_block b) (map system_v_block blocks)
    ∙ ap (λ (n : ℕ). n + sum_by model.calls_in (map system_v_block blocks)) (tries_kept b.lines)
    ∙ ap (λ (n : ℕ). model.calls_in b + n) (calls_kept blocks) ∙ sym (calls_more b blocks)

-- ---- scripts

abbrev goes_within : ℕ → Fork → Bool
goes_within total fork = nat_lt fork.from fork.to && nat_le fork.to total

abbrev is_once : List Fork → ℕ → Bool
is_once forks k = nat_eq k 1 || nat_eq (count_by (λ (fork : Fork). nat_eq fork.to k) forks) 1

-- the script of System V that runs a sound script is sound
pub system_sound : (given : Script) → IsSoundScript given → IsSoundScript (system_v given)
system_sound given h =
    let blocks : List Block = given.blocks in
    let made : List Block = map system_v_block blocks in
    let count : length blocks ≡ length made = sym (length-map blocks system_v_block) in
    let forks : forks_from 1 blocks ≡ forks_from 1 made = sym (forks_kept 1 blocks) in
    record {
      size = subst (λ (n : ℕ). (leb 1 n && leb n 32) ≡ true) count h.size;
      names = passes (λ (b : Block). model.is_name b.name) system_v_block blocks (λ b t. t) h.names;
      names_apart = apart_kept blocks ∙ h.names_apart;
      forward = subst (λ (n : ℕ). list_all (goes_within n) (forks_from 1 made) ≡ true) count
          (subst (λ (fs : List Fork). list_all (goes_within (length blocks)) fs ≡ true) forks h.forward);
      forked_once = subst
          (λ (fs : List Fork). list_all (λ (b : ℕ × Block). is_once fs b.0) (enumerate_from 1 made) ≡ true) forks
          (places_kept (is_once (forks_from 1 blocks)) 1 blocks ∙ h.forked_once);
      lines = passes (λ (b : Block). list_all model.is_line b.lines) system_v_block blocks
          (λ b t. passes model.is_line system_v_line b.lines line_kept t) h.lines;
      exits = passes (λ (b : Block). model.ends_rightly b.lines) system_v_block blocks
          (λ b t. ends_kept b.lines ∙ t) h.exits;
      variables = uses_from_kept [] 1 blocks h.variables;
      calls = subst (λ (n : ℕ). leb n 20000 ≡ true) (sym (calls_kept blocks)) h.calls;
    }
