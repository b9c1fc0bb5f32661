-- Going over the lines of events, step by step.
use Rattle.std.proofs.Common.{◌≡◌, ℕ, ◌+◌, ◌-◌, Bool, true, false, ◌&&◌, eqb, nat_eq, List, [], ◌∷◌, ◌++◌, length, Option, Some, None, refl, sym, ap, ◌∙◌, arith}
use Rattle.std.specs.Prelude.{Result, Ok, Err, option_map}
use Rattle.std.specs.List.{onto_first}
use Rattle.stamp_merge.specs.declared.Stamped.{Stamped}
use Rattle.script_reader.specs.Words.{lines_of}
use Rattle.image_text.specs.declared.placed.Placed.{Placed}
use Rattle.image_text.specs.declared.fault.ImageStop.{ImageStop}
use Rattle.image_text.specs.declared.fault.ImageStop.TheVariants.{Memory, Script, At}
use Rattle.image_text.specs.Gives.{Stops}
use Rattle.image_text.specs.Lines.{event_in}
use Rattle.image_text.specs.Reading.{Events, outside, events_from, with_event}

-- ---- a line outside the grammar

-- the stop at this line is the one that is wanted
pub stops-outside : (stop : ImageStop) (line : ℕ) (wanted : Result Events ImageStop) → Err stop ≡ outside line
    → wanted ≡ outside line → Stops stop wanted
stops-outside Memory line wanted e h = tt
stops-outside (Script l fault) line wanted e h = absurd cc
stops-outside (At l fault) line wanted e h = h ∙ sym e

-- ---- the loop

module _ (nodes : ℕ) (left low number : ℕ) (done : Events) (lines : List (List ℕ)) where
  pub from-whole : lines ≡ [] → nat_eq left 0 ≡ true → events_from nodes left low number done lines ≡ Ok done
  unfolding events_from
  from-whole e h = rw (e, h) refl

  pub from-short : lines ≡ [] → nat_eq left 0 ≡ false
      → events_from nodes left low number done lines ≡ outside number
  unfolding events_from
  from-short e h = rw (e, h) refl

  module _ (line : List ℕ) (behind : List (List ℕ)) (there : lines ≡ line ∷ behind) where
    pub from-over : nat_eq left 0 ≡ true
        → events_from nodes left low number done lines ≡ outside number
    unfolding events_from
    from-over h = rw (there, h) refl

    pub from-none : nat_eq left 0 ≡ false → event_in nodes low number line ≡ None
        → events_from nodes left low number done lines ≡ outside number
    unfolding events_from
    from-none h e = rw (there, h, e) refl

    pub from-goes : (event : Stamped Placed) → nat_eq left 0 ≡ false
        → event_in nodes low number line ≡ Some event
        → events_from nodes left low number done lines
        ≡ events_from nodes (left - 1) event.node (number + 1) (done ++ event ∷ []) behind
    unfolding events_from
    from-goes event h e = rw (there, h, e) refl

    -- the event has this node
    pub from-goes-by : (node : ℕ) (next : Events) → nat_eq left 0 ≡ false
        → Some node ≡ option_map (λ (e : Stamped Placed). e.node) (event_in nodes low number line)
        → next ≡ with_event done (event_in nodes low number line)
        → events_from nodes left low number done lines
        ≡ events_from nodes (left - 1) node (number + 1) next behind
    from-goes-by node next h is added = of (event_in nodes low number line) refl is added
      where
        of : (o : Option (Stamped Placed)) → event_in nodes low number line ≡ o
            → Some node ≡ option_map (λ (e : Stamped Placed). e.node) o → next ≡ with_event done o
            → events_from nodes left low number done lines
            ≡ events_from nodes (left - 1) node (number + 1) next behind
        of None found is added = absurd cc
        of (Some event) found is added =
            let same : node ≡ event.node = cc in
            from-goes event h found
            ∙ ap (λ (p : ℕ). events_from nodes (left - 1) p (number + 1) (done ++ event ∷ []) behind) (sym same)
            ∙ ap (λ (es : Events). events_from nodes (left - 1) node (number + 1) es behind) (sym added)

    -- there is none
    pub from-none-by : nat_eq left 0 ≡ false
        → None ≡ option_map (λ (e : Stamped Placed). e.node) (event_in nodes low number line)
        → events_from nodes left low number done lines ≡ outside number
    from-none-by h is = of (event_in nodes low number line) refl is
      where
        of : (o : Option (Stamped Placed)) → event_in nodes low number line ≡ o
            → None ≡ option_map (λ (e : Stamped Placed). e.node) o
            → events_from nodes left low number done lines ≡ outside number
        of None found is = from-none h found
        of (Some event) found is = absurd cc
