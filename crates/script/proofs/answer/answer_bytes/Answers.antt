-- `answer_bytes`: by whether there are words.
use Rattle.script.proofs.Laws.Answer.{some_words, no_words}
use Rattle.script.proofs.answer.answer_bytes.Goals as goal

pub returns-then-words-eq0 : goal.returns-then-words-eq0
returns-then-words-eq0 c = no_words _ _ c.if-words-eq0.true

pub returns : goal.returns
returns c = some_words _ _ c.if-words-eq0.false
