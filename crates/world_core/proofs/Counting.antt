-- How many events of each node may come next, as nodes and streams change.
use Rattle.std.proofs.Common.{◌≡◌, ℕ, ◌+◌, ◌-◌, ◌<◌, zero, suc, Bool, List, [], ◌∷◌, ◌++◌, length, set, take, get_or, cond, Option, Some, None, IfSome, IsSome, refl, sym, ap, subst, ◌∙◌, arith, get_or-set_same, length-set}
use Rattle.std.proofs.lemmas.List.{get_or_read, set-get_or, set-set, take_more}
use Rattle.rpc_frame.specs.declared.frame.Frame.{Frame}
use Rattle.world_model.specs.Node.{Node, is_born, can_run}
use Rattle.world_model.specs.World.{Streams}
use Rattle.world_core.specs.Counts.{events_at, counts_of}
use Rattle.world_core.specs.Inbox.{senders}
use Rattle.world_core.specs.State.{AreWhole}
use Rattle.world_core.proofs.Wholes.{whole_at}

pub counts-within : (ns : List (Option Node)) (rows : Streams) (k : ℕ) → k < length ns → k < length rows
    → k < length (counts_of ns rows)
counts-within [] rows k lt lt' = absurd (omega arith)
counts-within (n ∷ ns) [] k lt lt' = absurd (omega arith)
counts-within (n ∷ ns) (row ∷ rows) zero lt lt' = omega arith
counts-within (n ∷ ns) (row ∷ rows) (suc k) lt lt' =
    let rest = counts-within ns rows k (omega arith) (omega arith) in omega arith

-- the count at a place
pub counts-at : (ns : List (Option Node)) (rows : Streams) (k : ℕ) → k < length ns → k < length rows
    → get_or (counts_of ns rows) k 0 ≡ events_at (get_or ns k None) (get_or rows k [])
counts-at [] rows k lt lt' = absurd (omega arith)
counts-at (n ∷ ns) [] k lt lt' = absurd (omega arith)
counts-at (n ∷ ns) (row ∷ rows) zero lt lt' = refl
counts-at (n ∷ ns) (row ∷ rows) (suc k) lt lt' = counts-at ns rows k (omega arith) (omega arith)

-- where a node's streams change, so does its count alone
pub counts-row : (ns : List (Option Node)) (rows : Streams) (k : ℕ) (row : List (List Frame))
    → counts_of ns (set rows k row) ≡ set (counts_of ns rows) k (events_at (get_or ns k None) row)
counts-row [] rows k row = refl
counts-row (n ∷ ns) [] k row = refl
counts-row (n ∷ ns) (old ∷ rows) zero row = refl
counts-row (n ∷ ns) (old ∷ rows) (suc k) row =
    ap (λ (l : List ℕ). events_at n old ∷ l) (counts-row ns rows k row)

-- where a node changes, so does its count alone
pub counts-node : (ns : List (Option Node)) (rows : Streams) (k : ℕ) (n : Option Node)
    → counts_of (set ns k n) rows ≡ set (counts_of ns rows) k (events_at n (get_or rows k []))
counts-node [] rows k n = refl
counts-node (m ∷ ns) [] zero n = refl
counts-node (m ∷ ns) [] (suc k) n = refl
counts-node (m ∷ ns) (row ∷ rows) zero n = refl
counts-node (m ∷ ns) (row ∷ rows) (suc k) n =
    ap (λ (l : List ℕ). events_at m row ∷ l) (counts-node ns rows k n)

-- the counts of the first nodes, and of one more
pub counting-next : (ns : List (Option Node)) (rows : Streams) (i count : ℕ) (counts more : List ℕ) (n : Option Node)
    (row : List (List Frame))
    → counts ≡ take i (counts_of ns rows) → i < length ns → i < length rows → n ≡ get_or ns i n
    → row ≡ get_or rows i row
    → count ≡ events_at n row → more ≡ counts ++ count ∷ [] → more ≡ take (i + 1) (counts_of ns rows)
counting-next ns rows i count counts more n row so_far lt lt' read read' is_count pushed =
    let here : count ≡ get_or (counts_of ns rows) i 0 =
    is_count ∙ ap (λ (m : Option Node). events_at m row) (get_or_read ns i n lt read None)
    ∙ ap (events_at (get_or ns i None)) (get_or_read rows i row lt' read' [])
    ∙ sym (counts-at ns rows i lt lt') in
    pushed ∙ ap (λ (l : List ℕ). l ++ count ∷ []) so_far
    ∙ ap (λ (k : ℕ). take i (counts_of ns rows) ++ k ∷ []) here
    ∙ sym (take_more (counts_of ns rows) i 0 (counts-within ns rows i lt lt'))

-- there is a count for each node, where each has its row of streams
pub length-counts : (ns : List (Option Node)) (rows : Streams) → length rows ≡ length ns
    → length (counts_of ns rows) ≡ length ns
length-counts [] rows e = refl
length-counts (n ∷ ns) [] e = absurd (omega arith)
length-counts (n ∷ ns) (row ∷ rows) e = let rest = length-counts ns rows (omega arith) in omega arith

-- what a node and its streams count
pub count-is : (found : Option Node) (row : List (List Frame)) (b r : Bool) → IsSome found
    → IfSome found (λ n. b ≡ is_born n) → IfSome found (λ n. r ≡ can_run n)
    → length (senders b row) + cond r 1 0 ≡ events_at found row
count-is None row b r some born runs = absurd (let f : ⊥ = cc in f)
count-is (Some n) row b r some born runs =
    ap (λ (x : Bool). length (senders x row) + cond r 1 0) born
    ∙ ap (λ (x : Bool). length (senders (is_born n) row) + cond x 1 0) runs

-- the node that was read isn't spent
pub some-read : (ns : List (Option Node)) (i : ℕ) (n : Option Node) → AreWhole ns → i < length ns → n ≡ get_or ns i n
    → IsSome n
some-read ns i n all lt read =
    subst (λ (o : Option Node). IsSome o) (sym (get_or_read ns i n lt read None)) (whole_at ns i all lt)

-- a frame came, and the count of its receiver is taken anew
pub counted-sent : (ns : List (Option Node)) (rows : Streams) (k count : ℕ) (counts : List ℕ) (n : Option Node)
    (new read : List (List Frame))
    → counts ≡ counts_of ns rows → k < length ns → k < length rows → n ≡ get_or ns k n
    → read ≡ get_or (set rows k new) k read → count ≡ events_at n read
    → set counts k count ≡ counts_of ns (set rows k new)
counted-sent ns rows k count counts n new read counted lt lt' is_node is_row is_count =
    let row : read ≡ new = is_row ∙ get_or-set_same rows k new read lt' in
    let here : count ≡ events_at (get_or ns k None) new =
    is_count ∙ ap (events_at n) row ∙ ap (λ (m : Option Node). events_at m new) (get_or_read ns k n lt is_node None) in
    ap (λ (l : List ℕ). set l k count) counted ∙ ap (set (counts_of ns rows) k) here ∙ sym (counts-row ns rows k new)

-- the count of a node whose own isn't known is taken anew
pub counted-anew : (ns : List (Option Node)) (rows : Streams) (p k count : ℕ) (counts : List ℕ) (n : Option Node)
    (row : List (List Frame))
    → ((x : ℕ) → set counts (p - 1) x ≡ set (counts_of ns rows) (p - 1) x) → k ≡ p - 1
    → k < length ns → k < length rows → n ≡ get_or ns k n → row ≡ get_or rows k row
    → count ≡ events_at n row → set counts k count ≡ counts_of ns rows
counted-anew ns rows p k count counts n row others place lt lt' is_node is_row is_count =
    let here : count ≡ get_or (counts_of ns rows) k 0 =
    is_count ∙ ap (λ (m : Option Node). events_at m row) (get_or_read ns k n lt is_node None)
    ∙ ap (events_at (get_or ns k None)) (get_or_read rows k row lt' is_row [])
    ∙ sym (counts-at ns rows k lt lt')
    in
    ap (λ (i : ℕ). set counts i count) place ∙ others count
    ∙ ap (λ (i : ℕ). set (counts_of ns rows) i count) (sym place)
    ∙ ap (set (counts_of ns rows) k) here ∙ set-get_or (counts_of ns rows) k 0

-- a node had its turn
pub others-turned : (ns : List (Option Node)) (rows : Streams) (p k x : ℕ) (counts : List ℕ) (new : Option Node)
    → ((y : ℕ) → set counts (p - 1) y ≡ set (counts_of ns rows) (p - 1) y) → k ≡ p - 1
    → set counts (p - 1) x ≡ set (counts_of (set ns k new) rows) (p - 1) x
others-turned ns rows p k x counts new others place =
    let old = counts_of ns rows in
    let here = events_at new (get_or rows k []) in
    others x ∙ ap (λ (i : ℕ). set old i x) (sym place) ∙ sym (set-set old k here x)
    ∙ ap (λ (i : ℕ). set (set old k here) i x) place
    ∙ sym (ap (λ (l : List ℕ). set l (p - 1) x) (counts-node ns rows k new))

-- a frame was taken from what is on the way to a node
pub others-counted : (ns : List (Option Node)) (rows : Streams) (p k x : ℕ) (counts : List ℕ)
    (row : List (List Frame))
    → counts ≡ counts_of ns rows → k ≡ p - 1
    → set counts (p - 1) x ≡ set (counts_of ns (set rows k row)) (p - 1) x
others-counted ns rows p k x counts row counted place =
    let old = counts_of ns rows in
    ap (λ (l : List ℕ). set l (p - 1) x) counted ∙ ap (λ (i : ℕ). set old i x) (sym place)
    ∙ sym (set-set old k (events_at (get_or ns k None) row) x)
    ∙ ap (λ (i : ℕ). set (set old k (events_at (get_or ns k None) row)) i x) place
    ∙ sym (ap (λ (l : List ℕ). set l (p - 1) x) (counts-row ns rows k row))

-- there is a count for each node
pub counted-width : (ns : List (Option Node)) (rows : Streams) (k : ℕ) (counts : List ℕ)
    → ((x : ℕ) → set counts k x ≡ set (counts_of ns rows) k x) → length rows ≡ length ns → length counts ≡ length ns
counted-width ns rows k counts others width =
    sym (length-set counts k 0) ∙ ap length (others 0) ∙ length-set (counts_of ns rows) k 0
    ∙ length-counts ns rows width
