-- Where a journal that fits the script of System V is in the given script.
use Rattle.std.proofs.Common.{◌≡◌, ◌∙◌, ℕ, List, ◌∷◌, Option, Some, None, refl, sym, subst}
use Rattle.std.specs.Option.{option_map}
use Rattle.pico_base.specs.declared.reply.Entry.{Entry}
use Rattle.pico_base.specs.declared.script.Script.{Script}
use Rattle.number_maps.specs.Maps.{get}
use Rattle.waiting_model.specs.Fitting.{FitsFrom, IsNext, Places, Progress, places_after}
use Rattle.waiting_laws.proofs.Maps.{get-each, all-get}
use Rattle.mq_model.specs.Given.{IsGiven}
use Rattle.mq_model.specs.SystemV.{system_v}
use Rattle.mq_laws.proofs.Due.{Stands, stands}
use Rattle.mq_laws.proofs.GivenPlaces.{AreGiven, IsGivenProgress, given-places}
use Rattle.mq_laws.proofs.Places.{system_v_progress, system_v_places, same-places}

-- where the process is in the given script
pub record Found (places : Places) (pid : ℕ) (q : Progress) : Type 0 where
  pub place : Progress
  pub there : get places pid ≡ Some place
  pub is : system_v_progress place ≡ q

found-by : (places : Places) (pid : ℕ) (q : Progress) (o : Option Progress) → get places pid ≡ o
    → option_map system_v_progress o ≡ Some q → Found places pid q
found-by places pid q None there h = absurd (cc)
found-by places pid q (Some p) there h =
    let same : system_v_progress p ≡ q = cc in record { place = p; there = there; is = same }

-- each process that is somewhere in the script of System V
pub found : (places : Places) (pid : ℕ) (q : Progress) → get (system_v_places places) pid ≡ Some q → Found places pid q
found places pid q h =
    found-by places pid q (get places pid) refl (sym (get-each system_v_progress places pid) ∙ h)

-- An entry that fits, and the rest.
module _ (given : Script) (is_given : IsGiven given) (places : Places) (all : AreGiven places) (e : Entry)
    (es : List Entry) (to : Places) (f : FitsFrom (system_v given) (system_v_places places) (e ∷ es) to) where
  pub at-place : Found places e.pid f.progress
  at-place = found places e.pid f.progress f.there

  here-given : IsGivenProgress at-place.place
  here-given = all-get IsGivenProgress places e.pid at-place.place all at-place.there

  pub stands-here : Stands e at-place.place
  stands-here =
      stands e at-place.place here-given (subst (λ (q : Progress). IsNext q e.call) (sym at-place.is) f.next)

  pub rest-given : AreGiven (places_after given places e at-place.place)
  rest-given = given-places given is_given places e at-place.place all here-given

  pub rest-fits : FitsFrom (system_v given) (system_v_places (places_after given places e at-place.place)) es to
  rest-fits =
      subst (λ (x : Places). FitsFrom (system_v given) x es to) (same-places given places e at-place.place)
      (subst
      (λ (q : Progress).
      FitsFrom (system_v given) (places_after (system_v given) (system_v_places places) e q) es to)
      (sym at-place.is) f.rest)
