-- The text of words with numbers between them, and of what comes before it.
use Rattle.std.specs.Prelude.{◌++◌, ℕ, List, decimal}
use Rattle.ats_refusal.specs.declared.phrases.Form.{Form}
use Rattle.ats_refusal.specs.declared.phrases.Form.TheVariants.{Plain, Number, Numbers, Around}
use Rattle.ats_refusal.specs.declared.phrases.Lead.{Lead}
use Rattle.ats_refusal.specs.declared.phrases.Lead.TheVariants as lead

abbrev pub text_of_form : Form → List ℕ
text_of_form (Plain words) = words.now
text_of_form (Number words number) = words.now ++ decimal number
text_of_form (Numbers front first middle second) =
    front.now ++ (decimal first ++ (middle.now ++ decimal second))
text_of_form (Around front number end) = front.now ++ (decimal number ++ end.now)

-- a text after what leads it
abbrev pub led : Lead → List ℕ → List ℕ
led lead.Nothing text = text
led (lead.Around front number end) text = front.now ++ (decimal number ++ (end.now ++ text))
