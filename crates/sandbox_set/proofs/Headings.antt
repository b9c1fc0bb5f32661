-- What faults of its own a line has, by what it is.
use Rattle.std.proofs.Common.{◌≡◌, ℕ, ◌+◌, Bool, true, false, not, ◌&&◌, cond, ltb, leb, List, [], ◌∷◌, length, Option, Some, None, codes, bytes_eq, refl, sym, ap, subst, ◌∙◌}
use Rattle.std.proofs.lemmas.Bool.{and_parts, le-leb, lt-leb, ltb-false, ltb-true}
use Rattle.std.proofs.lemmas.Option.{none-some}
use Rattle.std.proofs.lemmas.Slice.Eq.{bytes_eq-Decides}
use Rattle.pico_base.specs.declared.script.Script.{Script}
use Rattle.kernel_model.specs.Script.{is_name}
use Rattle.script_reader.specs.Says.{is_comment}
use Rattle.script_reader.specs.Words.{words_of}
use Rattle.script_reader.specs.Fault.{Blocks}
use Rattle.sandbox_set.specs.declared.heading.Heading.{Heading}
use Rattle.sandbox_set.specs.declared.heading.Heading.TheVariants.{Skipped, Sandbox, EndSandbox, Proc, Other}
use Rattle.sandbox_set.specs.declared.read.Sandbox.{Sandbox as Box}
use Rattle.sandbox_set.specs.declared.fault.BoxFault.TheVariants.{NoSandbox, NoEndSandbox, SandboxTwice, TooManySandboxes, TooManyNodes}
use Rattle.sandbox_set.specs.Boxes as spec
use Rattle.sandbox_set.specs.Boxes.{heading_of, heading_by, name_in, name_by, own_fault, has_fault, Place, outside, is_skipped, heads_sandbox, ends_sandbox, heads_node, ends_script}
use Rattle.sandbox_set.specs.Parts.{nodes_behind}

-- ---- a line with a name is headed by `sandbox`

head_is : (name : List ℕ) → heading_by (codes "sandbox" ∷ name ∷ []) ≡ Sandbox
unfolding is_comment
head_is name = refl

head_named : (s name : List ℕ) → bytes_eq s (codes "sandbox") ≡ true → heading_by (s ∷ name ∷ []) ≡ Sandbox
head_named s name e =
    subst (λ w. heading_by (w ∷ name ∷ []) ≡ Sandbox) (sym ((bytes_eq-Decides s (codes "sandbox")).0 e)) (head_is name)

named_by : (words : List (List ℕ)) (name : List ℕ) → name_by words ≡ Some name → heading_by words ≡ Sandbox
named_by [] name e = absurd (none-some name e)
named_by (s ∷ []) name e = absurd (none-some name e)
named_by (s ∷ n ∷ []) name e = named_step (bytes_eq s (codes "sandbox") && is_name n) refl e
  where
    named_step : (b : Bool) → (bytes_eq s (codes "sandbox") && is_name n) ≡ b → cond b (Some n) None ≡ Some name
        → heading_by (s ∷ n ∷ []) ≡ Sandbox
    named_step true b e = head_named s n (and_parts (bytes_eq s (codes "sandbox")) (is_name n) b).0
    named_step false b e = absurd (none-some name e)
named_by (s ∷ n ∷ m ∷ words) name e = absurd (none-some name e)

-- a line `sandbox NAME` is headed by `sandbox`
pub named_heading : (line name : List ℕ) → name_in line ≡ Some name → heading_of line ≡ Sandbox
unfolding name_in heading_of
named_heading line name e = named_by (words_of line) name e

-- another line has no name
pub no_name : (line : List ℕ) → heads_sandbox line ≡ false → name_in line ≡ None
no_name line other = name_step (name_in line) refl
  where
    name_step : (o : Option (List ℕ)) → name_in line ≡ o → o ≡ None
    name_step None e = refl
    name_step (Some name) e =
        let head : true ≡ false = sym (ap spec.heads_sandbox_by (named_heading line name e)) ∙ other in
        absurd cc

-- ---- what a line isn't

body_head : (h : Heading) → spec.ends_script_by h ≡ false → spec.heads_sandbox_by h ≡ false
body_head Sandbox e = absurd cc
body_head Skipped e = refl
body_head EndSandbox e = refl
body_head Proc e = refl
body_head Other e = refl

end_head : (h : Heading) → spec.ends_sandbox_by h ≡ true → h ≡ EndSandbox
end_head Skipped e = absurd cc
end_head Sandbox e = absurd cc
end_head EndSandbox e = refl
end_head Proc e = absurd cc
end_head Other e = absurd cc

skipped_head : (h : Heading) → spec.is_skipped_by h ≡ true → h ≡ Skipped
skipped_head Skipped e = refl
skipped_head Sandbox e = absurd cc
skipped_head EndSandbox e = absurd cc
skipped_head Proc e = absurd cc
skipped_head Other e = absurd cc

break_head : (h : Heading) → spec.ends_script_by h ≡ true → spec.ends_sandbox_by h ≡ false → h ≡ Sandbox
break_head Skipped e f = absurd cc
break_head Sandbox e f = refl
break_head EndSandbox e f = absurd cc
break_head Proc e f = absurd cc
break_head Other e f = absurd cc

-- a line `endsandbox`
pub ends_is : (line : List ℕ) → ends_sandbox line ≡ true → heading_of line ≡ EndSandbox
ends_is line e = end_head (heading_of line) e

-- a line without words, or a comment
pub skipped_is : (line : List ℕ) → is_skipped line ≡ true → heading_of line ≡ Skipped
skipped_is line e = skipped_head (heading_of line) e

-- a line that ends a script and no sandbox
pub breaks_is : (line : List ℕ) → ends_script line ≡ true → ends_sandbox line ≡ false → heading_of line ≡ Sandbox
breaks_is line e f = break_head (heading_of line) e f

-- ---- inside a sandbox

-- a sandbox by its name and script
abbrev pub named_box : List ℕ → Script → Box
named_box name s = record { name = name; script = s }

-- inside a sandbox of this name, whose script reads as this
abbrev pub inner : List Box → List ℕ → Blocks → ℕ → Place
inner boxes name read nodes =
    record { boxes = boxes; begun = Some (record { name = name; read = read }); nodes = nodes }

own_plain : (boxes : List Box) (name : List ℕ) (read : Blocks) (nodes : ℕ) (line : List ℕ) (b : Bool)
    → heads_sandbox line ≡ false → (heads_node line && leb 32 nodes) ≡ b
    → own_fault (inner boxes name read nodes) line ≡ cond b (Some TooManyNodes) None
unfolding own_fault has_fault
own_plain boxes name read nodes line b head e = rw (head, no_name line head, e) refl

many_nodes : (h : Heading) (nodes : ℕ)
    → cond (not (spec.heads_node_by h)) (Some nodes) (cond (ltb nodes 32) (Some (nodes + 1)) None) ≡ None
    → (spec.heads_node_by h && leb 32 nodes) ≡ true
many_nodes Skipped nodes e = absurd cc
many_nodes Sandbox nodes e = absurd cc
many_nodes EndSandbox nodes e = absurd cc
many_nodes Other nodes e = absurd cc
many_nodes Proc nodes e = many_step (ltb nodes 32) refl e
  where
    many_step : (b : Bool) → ltb nodes 32 ≡ b → cond b (Some (nodes + 1)) None ≡ None → leb 32 nodes ≡ true
    many_step true b e = absurd cc
    many_step false b e = le-leb 32 nodes (ltb-false nodes 32 b)

few_nodes : (h : Heading) (nodes more : ℕ)
    → cond (not (spec.heads_node_by h)) (Some nodes) (cond (ltb nodes 32) (Some (nodes + 1)) None) ≡ Some more
    → (spec.heads_node_by h && leb 32 nodes) ≡ false
few_nodes Skipped nodes more e = refl
few_nodes Sandbox nodes more e = refl
few_nodes EndSandbox nodes more e = refl
few_nodes Other nodes more e = refl
few_nodes Proc nodes more e = few_step (ltb nodes 32) refl e
  where
    few_step : (b : Bool) → ltb nodes 32 ≡ b → cond b (Some (nodes + 1)) None ≡ Some more → leb 32 nodes ≡ false
    few_step true b e = lt-leb 32 nodes (ltb-true nodes 32 b)
    few_step false b e = absurd cc

module _ (boxes : List Box) (name : List ℕ) (read : Blocks) (nodes : ℕ) (line : List ℕ) where
  -- a line of the script with one node too many
  pub own_many : ends_script line ≡ false → nodes_behind nodes line ≡ None
      → own_fault (inner boxes name read nodes) line ≡ Some TooManyNodes
  own_many body e =
      own_plain boxes name read nodes line true (body_head (heading_of line) body)
      (many_nodes (heading_of line) nodes e)

  -- another line of the script
  pub own_none : (more : ℕ) → ends_script line ≡ false → nodes_behind nodes line ≡ Some more
      → own_fault (inner boxes name read nodes) line ≡ None
  own_none more body e =
      own_plain boxes name read nodes line false (body_head (heading_of line) body)
      (few_nodes (heading_of line) nodes more e)

  -- a line `endsandbox`
  pub own_end_line : heading_of line ≡ EndSandbox → own_fault (inner boxes name read nodes) line ≡ None
  own_end_line e =
      own_plain boxes name read nodes line false (ap spec.heads_sandbox_by e)
      (ap (λ (h : Heading). spec.heads_node_by h && leb 32 nodes) e)

  -- a line headed by `sandbox`
  pub own_break : heading_of line ≡ Sandbox → own_fault (inner boxes name read nodes) line ≡ Some NoEndSandbox
  unfolding own_fault has_fault
  own_break e = rw e refl

-- ---- outside a sandbox

module _ (boxes : List Box) (nodes : ℕ) (line : List ℕ) where
  -- a line without words, or a comment
  pub own_skipped : heading_of line ≡ Skipped → own_fault (outside boxes nodes) line ≡ None
  unfolding own_fault has_fault
  own_skipped e = rw (e, no_name line (ap spec.heads_sandbox_by e)) refl

  -- a line with words that isn't of the form `sandbox NAME`
  pub own_stray : is_skipped line ≡ false → name_in line ≡ None
      → own_fault (outside boxes nodes) line ≡ Some NoSandbox
  unfolding own_fault has_fault
  own_stray words e = rw (words, e) refl

  module _ (name : List ℕ) (e : name_in line ≡ Some name) (words : is_skipped line ≡ false) where
    -- a name that an earlier sandbox has
    pub own_twice : spec.has_name name boxes ≡ true → own_fault (outside boxes nodes) line ≡ Some SandboxTwice
    unfolding own_fault has_fault
    own_twice h = rw (words, e, h) refl

    -- one sandbox too many
    pub own_too_many : spec.has_name name boxes ≡ false → leb 8 (length boxes) ≡ true
        → own_fault (outside boxes nodes) line ≡ Some TooManySandboxes
    unfolding own_fault has_fault
    own_too_many h many = rw (words, e, h, many) refl

    -- a sandbox begins
    pub own_opening : spec.has_name name boxes ≡ false → leb 8 (length boxes) ≡ false
        → own_fault (outside boxes nodes) line ≡ None
    unfolding own_fault has_fault
    own_opening h few =
        let head : heads_node line ≡ false = ap spec.heads_node_by (named_heading line name e) in
        rw (words, e, h, few, head) refl
