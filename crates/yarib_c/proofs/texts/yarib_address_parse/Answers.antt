use Rattle.yarib_c.proofs.ParsedAddresses.{no_address}
use Rattle.yarib_c.proofs.texts.yarib_address_parse.Goals as goal

pub returns-in-Err-clause-text : goal.returns-in-Err-clause-text
returns-in-Err-clause-text c = λ told a is. no_address c.args.text.now c.in-Err.field-0 c.in-Err.ensures a is
