use Rattle.build.proofs.AnswerOfFacts.{told, tells}
use Rattle.build.proofs.laws.a_build_tells_the_text_of_its_answer.Goals as goal

pub returns-clause-told : goal.returns-clause-told
returns-clause-told c out asked status text is = told out asked status text is

pub returns-clause-tells : goal.returns-clause-tells
returns-clause-tells c out asked answer is = tells out asked answer is
