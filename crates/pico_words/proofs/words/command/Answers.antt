use Rattle.std.proofs.Common.{rules, ◌≡◌, ◌∙◌, ap, ap₂, true, codes}
use Rattle.clap.specs.Words.{Shape, app_of, new_app, rule_of, with_rule}
use Rattle.clap.specs.Simple.{app_of_fields, on_top}
use Rattle.pico_words.specs.Words.{mode_rule, seed_rule, steps_rule}
use Rattle.pico_words.proofs.words.command.Goals as goal

abbrev no_name : Shape → Shape
no_name s = record s { no_binary_name = true }

abbrev no_help : Shape → Shape
no_help s = record s { disable_help_flag = true }

abbrev no_version : Shape → Shape
no_version s = record s { disable_version_flag = true }

pub returns : goal.returns
returns c =
    let mode : rule_of c.required-mode.result ≡ mode_rule = search rules in
    let seed : rule_of c.long-seed.result ≡ seed_rule = search rules in
    let steps : rule_of c.action-steps.result ≡ steps_rule = search rules in
    let first : app_of c.no_binary_name.result ≡ on_top no_name (new_app (codes "pico")) =
    ap app_of_fields c.no_binary_name.ensures ∙ ap (on_top no_name) c.new-4.ensures.app in
    let second : app_of c.disable_help_flag.result ≡ on_top no_help (on_top no_name (new_app (codes "pico"))) =
    ap app_of_fields c.disable_help_flag.ensures ∙ ap (on_top no_help) first in
    let third : app_of c.disable_version_flag-bare.result
    ≡ on_top no_version (on_top no_help (on_top no_name (new_app (codes "pico")))) =
    ap app_of_fields c.disable_version_flag-bare.ensures ∙ ap (on_top no_version) second in
    c.in_ok-arg-3.ensures.shape (search rules)
    ∙ ap₂ with_rule (c.in_ok-arg-2.ensures.shape (search rules)
    ∙ ap₂ with_rule (c.in_ok-arg.ensures.shape (search rules) ∙ ap₂ with_rule third mode) seed) steps
