use Rattle.std.proofs.Common.{rules}
use Rattle.std.proofs.lemmas.Str.{IsUtf8-from_is_utf8, is_utf8-from_IsUtf8}
use Rattle.text.proofs.words.is_text.Goals as goal

pub returns : goal.returns
returns c = search (rules, IsUtf8-from_is_utf8, is_utf8-from_IsUtf8)
