use Rattle.std.proofs.Common.{Some, None, arith}
use Rattle.std.proofs.lemmas.Str.Pattern.{split_once_first}
use Rattle.program_parts.proofs.NameAndPath.{whole_name, no_path}
use Rattle.program_parts.proofs.at.split_path.Goals as goal

pub returns-in-Some-clause-name : goal.returns-in-Some-clause-name
returns-in-Some-clause-name c = (split_once_first 47 c.args.text.now (Some (c.in-Some.name, c.in-Some.path)) c.in-Some.ensures.cases (omega arith)).1

pub returns-in-Some-clause-path : goal.returns-in-Some-clause-path
returns-in-Some-clause-path c = (split_once_first 47 c.args.text.now (Some (c.in-Some.name, c.in-Some.path)) c.in-Some.ensures.cases (omega arith)).2

pub returns-in-None-clause-name : goal.returns-in-None-clause-name
returns-in-None-clause-name c = whole_name c.args.text.now (split_once_first 47 c.args.text.now None c.in-None.ensures.cases (omega arith))

pub returns-in-None-clause-path : goal.returns-in-None-clause-path
returns-in-None-clause-path c = no_path c.args.text.now (split_once_first 47 c.args.text.now None c.in-None.ensures.cases (omega arith))
