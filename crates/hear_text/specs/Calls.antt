-- The text of a call as the code holds it. Assumes nothing.
use Rattle.std.specs.Prelude.{ℕ, List, Result, Ok, Err}
use Rattle.sheet_form.specs.declared.fault.Fault.{Fault}
use Rattle.sheet_text.specs.Text.{fault_text}
use Rattle.hear_text.specs.Heard.{call_text}
use Rattle.hear_text.specs.declared.call.Call.{Call}

-- the text of a call
abbrev pub text_of_call : Call → List ℕ
text_of_call c = call_text c.seed c.signal_type c.offset_type c.pulses.items

-- .. or of a fault
abbrev pub text_found : Result Call Fault → List ℕ
text_found (Ok c) = text_of_call c
text_found (Err f) = fault_text f.number
