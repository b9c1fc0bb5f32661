-- When a name moves to another node (profile): at the fourth read in a row by one node that doesn't own it.
use Rattle.std.specs.Prelude.{◌≡◌, ◌≢◌, ℕ, ◌+◌, ◌<◌, ◌==◌, ◌||◌, if◌then◌else◌, Option, Some, None, List, [], ◌∷◌, refl}

-- who owns the name, which other node read it last, and how often in a row
pub record Watching : Type 0 where
  pub owner : ℕ
  pub reader : Option ℕ
  pub run : ℕ

-- nobody but the owner has read the name since the count began
abbrev pub watching_anew : ℕ → Watching
watching_anew owner = record { owner = owner; reader = None; run = 0 }

-- how often this node has read in a row so far
abbrev pub run_of : Option ℕ → ℕ → ℕ → ℕ
run_of None run node = 0
run_of (Some reader) run node = if reader == node then run else 0

-- how often it has once it reads again; the owner's reads aren't counted
abbrev pub run_with : Watching → ℕ → ℕ
run_with w node = if node == w.owner then 0 else run_of w.reader w.run node + 1

-- the node to which the name moves at a read of this node
abbrev pub move_at : Watching → ℕ → Option ℕ
move_at w node = if run_with w node == 4 then Some node else None

-- a node's run is so long: the owner's read and a move begin the count anew
abbrev pub watching_run : ℕ → ℕ → ℕ → Watching
watching_run owner node run =
    if run == 0 || run == 4 then watching_anew owner else record { owner = owner; reader = Some node; run = run }

-- after a read of this node
abbrev pub watching_after : Watching → ℕ → Watching
watching_after w node = watching_run w.owner node (run_with w node)

-- Over many reads, the latest first: what the watch is after them, how many of the latest are of one
-- node in a row, and that no node but the owner has come to four in a row.
abbrev pub watching_reads : ℕ → List ℕ → Watching
watching_reads owner [] = watching_anew owner
watching_reads owner (node ∷ reads) = watching_after (watching_reads owner reads) node

abbrev pub in_a_row : ℕ → List ℕ → ℕ
in_a_row node [] = 0
in_a_row node (reader ∷ reads) = if reader == node then in_a_row node reads + 1 else 0

abbrev pub NeverFour : ℕ → List ℕ → Type 0
NeverFour owner [] = Unit {0}
NeverFour owner (node ∷ reads) = (node ≢ owner → in_a_row node (node ∷ reads) < 4) × NeverFour owner reads

-- Where no move has come yet, the next read of a node other than the owner moves the name exactly
-- where it is that node's fourth in a row.
abbrev pub FourthMoves : Type 0
FourthMoves = (owner node : ℕ) (reads : List ℕ) → NeverFour owner reads → node ≢ owner
    → move_at (watching_reads owner reads) node ≡ (if in_a_row node (node ∷ reads) == 4 then Some node else None)

-- three reads of node 2, one of the owner and three of node 2 move nothing, and the next one does
three_and_three : move_at (watching_reads 1 (2 ∷ 2 ∷ 1 ∷ 2 ∷ 2 ∷ 2 ∷ [])) 2 ≡ None
three_and_three = refl

fourth : move_at (watching_reads 1 (2 ∷ 2 ∷ 2 ∷ 1 ∷ 2 ∷ 2 ∷ 2 ∷ [])) 2 ≡ Some 2
fourth = refl

-- a move begins the count anew, and so does a read of a third node
after_a_move : watching_reads 1 (2 ∷ 2 ∷ 2 ∷ 2 ∷ []) ≡ watching_anew 1
after_a_move = refl

third_node : (watching_reads 1 (3 ∷ 2 ∷ 2 ∷ 2 ∷ [])).run ≡ 1
third_node = refl

owner_alone : move_at (watching_reads 1 (1 ∷ 1 ∷ 1 ∷ 1 ∷ [])) 1 ≡ None
owner_alone = refl
