-- Each line that is left to a process is one of the given script.
use Rattle.std.proofs.Common.{◌≡◌, ℕ, ◌+◌, ◌-◌, Bool, true, false, List, [], ◌∷◌, Option, Some, None, refl}
use Rattle.std.specs.Prelude.{if◌then◌else◌, fold, slice_get}
use Rattle.std.specs.List.{list_all}
use Rattle.std.proofs.lemmas.Bool.{and_parts, and_from}
use Rattle.pico_base.specs.declared.call.Call.{Call}
use Rattle.pico_base.specs.declared.call.Call.TheVariants as calls
use Rattle.pico_base.specs.declared.reply.Entry.{Entry}
use Rattle.pico_base.specs.declared.reply.Reply.{Reply}
use Rattle.pico_base.specs.declared.reply.Reply.TheVariants as replies
use Rattle.pico_base.specs.declared.script.Line.{Line}
use Rattle.pico_base.specs.declared.script.Block.{Block}
use Rattle.pico_base.specs.declared.script.Script.{Script}
use Rattle.number_maps.specs.Maps.{get, put}
use Rattle.kernel_model.specs.Script.{Vars, is_exit, with_exit}
use Rattle.kernel_model.specs.Fitting.{Place, block_at, block_place, child_vars, due, is_due_again, is_killed, place_after, vars_after}
use Rattle.waiting_model.specs.Fitting.{Places, Progress, after_entry, after_fork, after_own, after_wake, after_woken, answered, at_place, opening_places, places_after, woken_at}
use Rattle.waiting_model.specs.Plain.{AllValues}
use Rattle.waiting_laws.proofs.Maps.{all-get, all-put}
use Rattle.mq_model.specs.Given.{IsGiven, is_given_block, is_given_line}
use Rattle.mq_laws.proofs.Due.{is_given_place}
use Rattle.mq_laws.proofs.Messages.{all-there}

-- the lines that are left to a process are lines of a given script
abbrev pub IsGivenProgress : Progress → Type 0
IsGivenProgress p = is_given_place p.place ≡ true

-- so are those that are left to each
abbrev pub AreGiven : Places → Type 0
AreGiven places = AllValues IsGivenProgress places

given-again : (b : Bool) (line : Line) (lines : List Line) (tried : ℕ) (vars after : Vars)
    → list_all is_given_line (line ∷ lines) ≡ true
    → is_given_place
    (if b
    then record { left = line ∷ lines; tried = tried + 1; vars = vars }
    else record { left = lines; tried = 0; vars = after })
    ≡ true
given-again true line lines tried vars after h = h
given-again false line lines tried vars after h = (and_parts (is_given_line line) (list_all is_given_line lines) h).1

given-in : (lines : List Line) (tried : ℕ) (vars : Vars) (call : Call) (own : Option Reply)
    → list_all is_given_line lines ≡ true
    → is_given_place (place_after (record { left = lines; tried = tried; vars = vars }) call own) ≡ true
given-in [] tried vars call None h = h
given-in [] tried vars call (Some reply) h = h
given-in (line ∷ lines) tried vars call None h = h
given-in (line ∷ lines) tried vars call (Some reply) h =
    given-again (is_due_again call reply tried line.tries) line lines tried vars (vars_after vars line.set reply) h

given-after : (place : Place) (call : Call) (own : Option Reply) → is_given_place place ≡ true
    → is_given_place (place_after place call own) ≡ true
given-after place call own h = given-in place.left place.tried place.vars call own h

given-moved : (b : Bool) (place next : Place) → is_given_place next ≡ true
    → is_given_place (if b then record place { left = [] } else next) ≡ true
given-moved true place next h = refl
given-moved false place next h = h

given-own : (place : Place) (call : Call) (own : Option Reply) → is_given_place place ≡ true
    → IsGivenProgress (after_own place call own)
given-own place call None h = h
given-own place call (Some reply) h =
    given-moved (is_killed call) place (place_after place call (Some reply)) (given-after place call (Some reply) h)

given-answered : (place : Place) (o : Option Call) (reply : Reply) → is_given_place place ≡ true
    → is_given_place (answered place o reply) ≡ true
given-answered place None reply h = h
given-answered place (Some call) reply h = given-after place call (Some reply) h

given-if : (b : Bool) (p : Progress) (place : Place) → IsGivenProgress p → is_given_place place ≡ true
    → IsGivenProgress (if b then at_place place else p)
given-if true p place h g = g
given-if false p place h g = h

given-wake : (reply : Reply) (p : Progress) → IsGivenProgress p → IsGivenProgress (after_wake reply p)
given-wake reply p h =
    given-if p.parked p (answered p.place (due p.place) reply) h (given-answered p.place (due p.place) reply h)

given-entry : (call : Call) (own : Option Reply) (p : Progress) → IsGivenProgress p
    → IsGivenProgress (after_entry call own p)
given-entry (calls.Withdraw name) None p h = h
given-entry (calls.Withdraw name) (Some reply) p h = given-wake reply p h
given-entry call own p h = given-own p.place call own h

given-exit : (b : Bool) (line : Line) (lines : List Line) → is_given_line line ≡ true
    → list_all is_given_line lines ≡ true → list_all is_given_line (if b then line ∷ [] else line ∷ lines) ≡ true
given-exit true line lines h g = and_from (is_given_line line) true h refl
given-exit false line lines h g = and_from (is_given_line line) (list_all is_given_line lines) h g

given-lines : (lines : List Line) → list_all is_given_line lines ≡ true
    → list_all is_given_line (with_exit lines) ≡ true
given-lines [] h = refl
given-lines (line ∷ lines) h =
    let parts = and_parts (is_given_line line) (list_all is_given_line lines) h
    in given-exit (is_exit line.call) line (with_exit lines) parts.0 (given-lines lines parts.1)

given-block : (given : Script) → IsGiven given → (i : ℕ) (o : Option Block) → slice_get given.blocks i ≡ o
    → (vars : Vars)
    → is_given_place (block_place o vars) ≡ true
given-block given is i None at vars = refl
given-block given is i (Some block) at vars =
    given-lines block.lines (all-there is_given_block given.blocks i block is at)

-- where a process begins
begins-given : (given : Script) → IsGiven given → (n : ℕ) (vars : Vars)
    → is_given_place (block_place (block_at given n) vars) ≡ true
begins-given given is n vars = given-block given is (n - 1) (block_at given n) refl vars

given-fork : (given : Script) → IsGiven given → (places : Places) (parent : Place) (call : Call) (own : Option Reply)
    → AreGiven places → AreGiven (after_fork given places parent call own)
given-fork given is places parent (calls.Fork block) (Some (replies.Num child)) all =
    all-put IsGivenProgress places child (at_place (block_place (block_at given block) (child_vars parent))) all
    (begins-given given is block (child_vars parent))
given-fork given is places parent (calls.Fork block) (Some reply) all = all
given-fork given is places parent (calls.Fork block) None all = all
given-fork given is places parent call own all = all

given-woken-at : (places : Places) (w : ℕ × Reply) (o : Option Progress) → get places w.0 ≡ o → AreGiven places
    → AreGiven (woken_at places w o)
given-woken-at places w None there all = all
given-woken-at places w (Some p) there all =
    all-put IsGivenProgress places w.0 (after_wake w.1 p) all
    (given-wake w.1 p (all-get IsGivenProgress places w.0 p all there))

given-woken : (ws : List (ℕ × Reply)) (places : Places) → AreGiven places → AreGiven (fold after_woken places ws)
given-woken [] places all = all
given-woken (w ∷ ws) places all =
    given-woken ws (after_woken places w) (given-woken-at places w (get places w.0) refl all)

-- the places behind an entry
pub given-places : (given : Script) → IsGiven given → (places : Places) (e : Entry) (p : Progress) → AreGiven places
    → IsGivenProgress p → AreGiven (places_after given places e p)
given-places given is places e p all h =
    given-woken e.outcome.woken
    (after_fork given (put places e.pid (after_entry e.call e.outcome.own p)) p.place e.call e.outcome.own)
    (given-fork given is (put places e.pid (after_entry e.call e.outcome.own p)) p.place e.call e.outcome.own
    (all-put IsGivenProgress places e.pid (after_entry e.call e.outcome.own p) all
    (given-entry e.call e.outcome.own p h)))

-- process 1 begins with the lines of the first block
pub opening-given : (given : Script) → IsGiven given → AreGiven (opening_places given)
opening-given given is = (begins-given given is 1 [], tt)
