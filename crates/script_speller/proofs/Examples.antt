-- The spelling of a small script, and of texts, computed.
use Rattle.std.specs.Prelude.{◌≡◌, replicate, refl, codes}
use Rattle.std.specs.Fmt.{digits}
use Rattle.kernel_model.specs.FirstExample.{hello}
use Rattle.script_speller.specs.Spelling.{variable_text, message_word, line_text, block_text, spelling}

spelled_hello : spelling hello
    ≡ codes "proc main\nq = msgget private\nmsgsnd $q 1 \"hi\" nowait\nmsgrcv $q 0 16 nowait\nend"
unfolding variable_text message_word line_text block_text digits
spelled_hello = refl

-- five equal letters stand between quotes, and six are counted
five_letters : message_word (replicate 5 97) ≡ codes "\"aaaaa\""
unfolding message_word
five_letters = refl

six_letters : message_word (replicate 6 97) ≡ codes "rep:6:a"
unfolding message_word digits
six_letters = refl

-- the last variable has two digits, and another one none
last_variable : variable_text 2885 ≡ codes "z99"
unfolding variable_text
last_variable = refl

no_digit : variable_text 2775 ≡ codes "z"
unfolding variable_text
no_digit = refl
