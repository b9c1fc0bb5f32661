-- Names and sets of signals: a spelling is read, with what follows it.
use Rattle.std.proofs.Common.{◌≡◌, ℕ, ◌≤◌, Bool, true, false, cond, List, [], ◌∷◌, ◌++◌, length, Some, None, refl, ap, ◌∙◌, append_assoc, arith}
use Rattle.std.specs.Prelude.{codes, fold}
use Rattle.std.specs.List.{AllByRecursion, flat_map, filter}
use Rattle.pico_base.specs.declared.signal.Sig.{Sig}
use Rattle.pico_base.specs.declared.signal.Sig.TheVariants.{Hup, Int, Quit, Kill, Usr1, Usr2, Pipe, Alrm, Term, Chld}
use Rattle.pico_base.specs.declared.signal.SigArg.{SigArg}
use Rattle.pico_base.specs.declared.signal.SigArg.TheVariants.{Zero, Is, Bad}
use Rattle.pico_base.specs.declared.signal.Act.{Act}
use Rattle.pico_base.specs.declared.signal.Act.TheVariants.{Dfl, Ign, Catch}
use Rattle.pico_base.specs.declared.signal.How.{How}
use Rattle.pico_base.specs.declared.signal.How.TheVariants.{Block, Unblock, SetMask}
use Rattle.pico_base.specs.declared.signal.PerSignal.{PerSignal}
use Rattle.pico_base.specs.declared.reply.Errno.{Errno}
use Rattle.pico_base.specs.declared.reply.Errno.TheVariants.{Esrch, Einval, Echild, Enoent, Eexist, Enomsg, Eagain, E2big, Efbig, Erange, Eidrm, Eintr}
use Rattle.pico_base.specs.Signal.{at, put_at, everywhere, all_signals}
use Rattle.kernel_model.specs.Trace.{signal_name, signal_argument, action_name, how_name, error_name, signals_text, set_text}
use Rattle.quoted_bytes.specs.Front.{strip}
use Rattle.text_fields.specs.Fields.{named_at, signal_at, argument_at, action_at, how_at, error_at, all_at, behind_comma, joined_at, set_at}
use Rattle.text_fields.proofs.Many.{many-again, parts-room}

-- a signal's name is read as that signal, whatever follows it
pub signal_again : (g : Sig) (rest : List ℕ) → signal_at (signal_name g ++ rest) ≡ Some (g, rest)
unfolding named_at strip
signal_again Hup rest = refl
signal_again Int rest = refl
signal_again Quit rest = refl
signal_again Kill rest = refl
signal_again Usr1 rest = refl
signal_again Usr2 rest = refl
signal_again Pipe rest = refl
signal_again Alrm rest = refl
signal_again Term rest = refl
signal_again Chld rest = refl

-- a signal's name, `0` or `badsig` is read as the argument that it stands for, whatever follows it
pub argument_again : (g : SigArg) (rest : List ℕ) → argument_at (signal_argument g ++ rest) ≡ Some (g, rest)
unfolding argument_at named_at strip
argument_again Zero rest = refl
argument_again Bad rest = refl
argument_again (Is Hup) rest = refl
argument_again (Is Int) rest = refl
argument_again (Is Quit) rest = refl
argument_again (Is Kill) rest = refl
argument_again (Is Usr1) rest = refl
argument_again (Is Usr2) rest = refl
argument_again (Is Pipe) rest = refl
argument_again (Is Alrm) rest = refl
argument_again (Is Term) rest = refl
argument_again (Is Chld) rest = refl

-- an action's name is read as that action, whatever follows it
pub action_again : (a : Act) (rest : List ℕ) → action_at (action_name a ++ rest) ≡ Some (a, rest)
unfolding named_at strip
action_again Dfl rest = refl
action_again Ign rest = refl
action_again Catch rest = refl

-- the name of a change of the mask is read as that change, whatever follows it
pub how_again : (h : How) (rest : List ℕ) → how_at (how_name h ++ rest) ≡ Some (h, rest)
unfolding named_at strip
how_again Block rest = refl
how_again Unblock rest = refl
how_again SetMask rest = refl

pub error_again : (e : Errno) (rest : List ℕ) → error_at (error_name e ++ rest) ≡ Some (e, rest)
unfolding named_at strip
error_again Esrch rest = refl
error_again Einval rest = refl
error_again Echild rest = refl
error_again Enoent rest = refl
error_again Eexist rest = refl
error_again Enomsg rest = refl
error_again Eagain rest = refl
error_again E2big rest = refl
error_again Efbig rest = refl
error_again Erange rest = refl
error_again Eidrm rest = refl
error_again Eintr rest = refl

-- ---- lists of signals

abbrev IsAny : Sig → Type 0
IsAny g = Unit {0}

abbrev Anything : List ℕ → Type 0
Anything rest = Unit {0}

any_of : (gs : List Sig) → AllByRecursion IsAny gs
any_of [] = tt
any_of (g ∷ gs) = (tt, any_of gs)

abbrev more_text : Sig → List ℕ
more_text g = 44 ∷ signal_name g

more_again : (g : Sig) (rest : List ℕ) → behind_comma signal_at (more_text g ++ rest) ≡ Some (g, rest)
unfolding strip
more_again g rest = signal_again g rest

no_more : (more : List ℕ) → behind_comma signal_at (32 ∷ more) ≡ None
unfolding strip
no_more more = refl

joined_again : (g : Sig) (gs : List Sig) (more : List ℕ)
    → joined_at signal_at (signals_text (g ∷ gs) ++ 32 ∷ more) ≡ Some (g ∷ gs, 32 ∷ more)
joined_again g gs more =
    let bytes : List ℕ = flat_map more_text gs ++ 32 ∷ more in
    let front : signals_text (g ∷ gs) ++ 32 ∷ more ≡ signal_name g ++ bytes =
    append_assoc (signal_name g) (flat_map more_text gs) (32 ∷ more) in
    let room : length gs ≤ length bytes =
    parts-room (behind_comma signal_at) more_text IsAny Anything gs (32 ∷ more) (λ h _. omega arith) (any_of gs) in
    let all : all_at (behind_comma signal_at) bytes ≡ (gs, 32 ∷ more) =
    many-again (behind_comma signal_at) more_text IsAny Anything (length bytes) gs (32 ∷ more)
    (λ h rest _ _. more_again h rest) (λ _. tt) (no_more more) (any_of gs) room in
    rw (front, signal_again g bytes, all) refl

-- no signal's name begins like `none`
not_none : (g : Sig) (rest : List ℕ) → strip (codes "none") (signal_name g ++ rest) ≡ None
unfolding strip
not_none Hup rest = refl
not_none Int rest = refl
not_none Quit rest = refl
not_none Kill rest = refl
not_none Usr1 rest = refl
not_none Usr2 rest = refl
not_none Pipe rest = refl
not_none Alrm rest = refl
not_none Term rest = refl
not_none Chld rest = refl

-- ---- a set from its signals, one after another

abbrev added : PerSignal Bool → Sig → PerSignal Bool
added set g = put_at set g true

abbrev set_with : PerSignal Bool → List Sig → PerSignal Bool
set_with set gs = fold added set gs

chosen : (b : Bool) (set : PerSignal Bool) (g : Sig) (gs : List Sig)
    → set_with set (cond b (g ∷ gs) gs) ≡ set_with (cond b (added set g) set) gs
chosen true set g gs = refl
chosen false set g gs = refl

abbrev of_ten : Bool → Bool → Bool → Bool → Bool → Bool → Bool → Bool → Bool → Bool → PerSignal Bool
of_ten a b c d e f g h i j =
    record { hup = a; int = b; quit = c; kill = d; usr1 = e; usr2 = f; pipe = g; alrm = h; term = i; chld = j }

put_if : (x : Bool) (set full : PerSignal Bool) (g : Sig) → (x ≡ true → added set g ≡ full) → (x ≡ false → set ≡ full)
    → cond x (added set g) set ≡ full
put_if true set full g with_it without = with_it refl
put_if false set full g with_it without = without refl

members_of : (s : PerSignal Bool) → set_with (everywhere false) (filter (at s) all_signals) ≡ s
members_of s =
    let f : Bool = false in
    let step : (b : Bool) (set full : PerSignal Bool) (g : Sig) (gs : List Sig) → (b ≡ true → added set g ≡ full)
    → (b ≡ false → set ≡ full) → set_with set (cond b (g ∷ gs) gs) ≡ set_with full gs =
    λ b set full g gs with_it without. chosen b set g gs
    ∙ ap (λ (x : PerSignal Bool). set_with x gs) (put_if b set full g with_it without) in
    step s.hup _ (of_ten s.hup f f f f f f f f f) Hup _ (λ e. rw e refl) (λ e. rw e refl)
    ∙ step s.int _ (of_ten s.hup s.int f f f f f f f f) Int _ (λ e. rw e refl) (λ e. rw e refl)
    ∙ step s.quit _ (of_ten s.hup s.int s.quit f f f f f f f) Quit _ (λ e. rw e refl) (λ e. rw e refl)
    ∙ step s.kill _ (of_ten s.hup s.int s.quit s.kill f f f f f f) Kill _ (λ e. rw e refl) (λ e. rw e refl)
    ∙ step s.usr1 _ (of_ten s.hup s.int s.quit s.kill s.usr1 f f f f f) Usr1 _ (λ e. rw e refl) (λ e. rw e refl)
    ∙ step s.usr2 _ (of_ten s.hup s.int s.quit s.kill s.usr1 s.usr2 f f f f) Usr2 _ (λ e. rw e refl) (λ e. rw e refl)
    ∙ step s.pipe _ (of_ten s.hup s.int s.quit s.kill s.usr1 s.usr2 s.pipe f f f) Pipe _ (λ e. rw e refl)
    (λ e. rw e refl)
    ∙ step s.alrm _ (of_ten s.hup s.int s.quit s.kill s.usr1 s.usr2 s.pipe s.alrm f f) Alrm _ (λ e. rw e refl)
    (λ e. rw e refl)
    ∙ step s.term _ (of_ten s.hup s.int s.quit s.kill s.usr1 s.usr2 s.pipe s.alrm s.term f) Term _ (λ e. rw e refl)
    (λ e. rw e refl)
    ∙ step s.chld _ s Chld [] (λ e. rw (← e) refl) (λ e. rw (← e) refl)

listed_again : (s : PerSignal Bool) (gs : List Sig) (more : List ℕ) → set_with (everywhere false) gs ≡ s
    → set_at (signals_text gs ++ 32 ∷ more) ≡ Some (s, 32 ∷ more)
unfolding set_at strip
listed_again s [] more e = ap (λ (x : PerSignal Bool). Some (x, 32 ∷ more)) e
listed_again s (g ∷ gs) more e =
    let other : strip (codes "none") (signals_text (g ∷ gs) ++ 32 ∷ more) ≡ None =
    ap (strip (codes "none")) (append_assoc (signal_name g) (flat_map more_text gs) (32 ∷ more))
    ∙ not_none g (flat_map more_text gs ++ 32 ∷ more) in
    rw (other, joined_again g gs more) (ap (λ (x : PerSignal Bool). Some (x, 32 ∷ more)) e)

-- a set's spelling is read as that set, where a blank follows
pub set_again : (s : PerSignal Bool) (more : List ℕ) → set_at (set_text s ++ 32 ∷ more) ≡ Some (s, 32 ∷ more)
unfolding set_text
set_again s more = listed_again s (filter (at s) all_signals) more (members_of s)
