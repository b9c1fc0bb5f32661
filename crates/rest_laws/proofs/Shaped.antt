-- Which node and which stream stands at which place of a world's lists, and that what isn't in range shows nothing.
use Rattle.std.proofs.Common.{◌≡◌, ◌≢◌, ◌⊎◌, ℕ, zero, suc, ◌+◌, ◌-◌, ◌<◌, ◌≤◌, Bool, true, false, ◌&&◌, if◌then◌else◌, List, [], ◌∷◌, length, get_or, slice_get, Some, None, unwrap_or, refl, ap, sym, ◌∙◌, inl, inr, arith}
use Rattle.std.proofs.lemmas.Bool.{cases_lt, lt-ltb, le-ltb}
use Rattle.std.proofs.lemmas.Option.{slice_get_past}
use Rattle.kernel_laws.proofs.Plain.{not_some}
use Rattle.pico_base.specs.declared.numbers.Name.{Name}
use Rattle.pico_base.specs.declared.numbers.Name.TheVariants.{Proc, Msg, Sem}
use Rattle.pico_base.specs.declared.script.Script.{Script}
use Rattle.rpc_frame.specs.declared.frame.Frame.{Frame}
use Rattle.node_model.specs.Bodies.{Body}
use Rattle.node_model.specs.Kinds.{get_named}
use Rattle.world_model.specs.Node.{Node, unborn_node}
use Rattle.world_model.specs.World.{World, is_number, node_at, node_count, stream}
use Rattle.world_laws.specs.Invariant.{IsShaped}
use Rattle.world_laws.specs.Names.{held_at}
use Rattle.world_laws.specs.Sights.{node_of, frames_to}
use Rattle.world_laws.proofs.Steps.{frames-low}

-- ---- nodes

-- the node at a place of the list
pub node-at-place : (w : World) (i : ℕ) (n : Node) → slice_get w.nodes i ≡ Some n → node_of w (i + 1) ≡ n
node-at-place w i n there =
    let same : i + 1 - 1 ≡ i = omega arith
    in ap (λ t. unwrap_or (if t then node_at w (i + 1) else None) (unborn_node (i + 1)))
    (lt-ltb 0 (i + 1) (omega arith))
    ∙ ap (λ o. unwrap_or o (unborn_node (i + 1))) (ap (slice_get w.nodes) same ∙ there)

-- a number that is no node's shows an unborn node
pub nobody-there : (script : Script) (w : World) → IsShaped script w → (p : ℕ) → (p < 1) ⊎ (node_count script < p)
    → node_of w p ≡ unborn_node p
nobody-there script w shape p (inl low) =
    ap (λ t. unwrap_or (if t then node_at w p else None) (unborn_node p)) (le-ltb 0 p (omega (arith, low)))
nobody-there script w shape p (inr past) =
    let count = shape.nodes
    in ap (λ t. unwrap_or (if t then node_at w p else None) (unborn_node p)) (lt-ltb 0 p (omega (arith, past)))
    ∙ ap (λ o. unwrap_or o (unborn_node p)) (slice_get_past w.nodes (p - 1) (omega (arith, past, count)))

-- an unborn node has nothing
pub unborn-has-nothing : (p : ℕ) (name : Name) → get_named (unborn_node p).deeds name ≡ None
unborn-has-nothing p (Proc pid) = refl
unborn-has-nothing p (Msg id) = refl
unborn-has-nothing p (Sem id) = refl

-- a number is a node's or not
pub range-cases : (script : Script) (p : ℕ) → ((1 ≤ p) × (p ≤ node_count script)) ⊎ ((p < 1) ⊎ (node_count script < p))
range-cases script p =
    elim (cases_lt p 1) [
      | inl low ↦ inr (inl low)
      | inr some ↦
          elim (cases_lt (node_count script) p) [
            | inl past ↦ inr (inr past)
            | inr within ↦ inl (omega (arith, some), omega (arith, within))
          ]
    ]

-- who holds something is a node of the script
pub holder-in-range : (script : Script) (w : World) → IsShaped script w → (h : ℕ) (name : Name) (v : Body)
    → held_at w name h ≡ Some v → (1 ≤ h) × (h ≤ node_count script)
holder-in-range script w shape h name v there =
    elim (range-cases script h) [
      | inl within ↦ within
      | inr out ↦
          not_some v
          (sym (ap (λ (n : Node). get_named n.deeds name) (nobody-there script w shape h out)
          ∙ unborn-has-nothing h name)
          ∙ there)
    ]

-- ---- streams

-- the stream at a place of a row
pub frames-at-place : (w : World) (i j : ℕ) → frames_to w (i + 1) (j + 1) ≡ get_or (get_or w.streams i []) j []
frames-at-place w i j =
    let first : i + 1 - 1 ≡ i = omega arith
    in let second : j + 1 - 1 ≡ j = omega arith
    in frames-low w (i + 1) (j + 1) (omega arith) (omega arith)
    ∙ ap (λ x. get_or (get_or w.streams x []) (j + 1 - 1) []) first
    ∙ ap (λ y. get_or (get_or w.streams i []) y []) second

-- a value within a list isn't what stands for nothing
within : {A : Type 0} (xs : List A) (i : ℕ) (d : A) → get_or xs i d ≢ d → i < length xs
within [] i d some = absurd (some refl)
within (x ∷ xs) zero d some = omega arith
within (x ∷ xs) (suc i) d some = let rest = within xs i d some in omega (arith, rest)

-- the place of a stream with something in it
pub record HasStream (w : World) (to sender : ℕ) : Type 0 where
  pub low : 1 ≤ to
  pub low_from : 1 ≤ sender
  pub row : to - 1 < length w.streams
  pub column : sender - 1 < length (get_or w.streams (to - 1) [])

-- nothing comes to a number that is no node's
pub none-to : (w : World) (to sender : ℕ) → to < 1 → frames_to w to sender ≡ []
none-to w to sender low = rw (le-ltb 0 to (omega (arith, low))) refl

and-false : (t : Bool) → (t && false) ≡ false
and-false true = refl
and-false false = refl

-- and nothing from one
pub none-from : (w : World) (to sender : ℕ) → sender < 1 → frames_to w to sender ≡ []
none-from w to sender low =
    ap (λ t. if is_number to && t then stream w to sender else []) (le-ltb 0 sender (omega (arith, low)))
    ∙ ap (λ t. if t then stream w to sender else []) (and-false (is_number to))

-- it is there
pub stream-there : (w : World) (to sender : ℕ) → frames_to w to sender ≢ [] → HasStream w to sender
stream-there w to sender some =
    elim (cases_lt to 1) [
      | inl none ↦ absurd (some (none-to w to sender none))
      | inr low ↦
          elim (cases_lt sender 1) [
            | inl none ↦ absurd (some (none-from w to sender none))
            | inr low_from ↦
                let is = frames-low w to sender (omega (arith, low)) (omega (arith, low_from))
                in let row : List (List Frame) = get_or w.streams (to - 1) []
                in record {
                  low = omega (arith, low);
                  low_from = omega (arith, low_from);
                  row = within w.streams (to - 1) []
                      (λ none. some (is ∙ ap (λ (r : List (List Frame)). get_or r (sender - 1) []) none));
                  column = within row (sender - 1) [] (λ none. some (is ∙ none));
                }
          ]
    ]
