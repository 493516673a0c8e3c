-- What a question of the code stands for.
use Rattle.std.specs.Prelude.{map, option_map, string_bytes}
use Rattle.answers.specs.Questions.{Question, Usage, Listing, Broken, Unfound, Breach, Proposed, Page, Log, Faulty, Calls, Followed, Learnt, Planned, NamesLeft}
use Rattle.answers.specs.declared.questions.Question.{Question as QuestionCode}
use Rattle.answers.specs.declared.questions.Question.TheVariants as question

abbrev pub question_of : QuestionCode → Question
question_of question.Usage = Usage
question_of (question.Listing task cert) = Listing task.now (option_map (λ name. name.now) cert)
question_of (question.Broken task cert) = Broken task.now cert.now
question_of (question.Unfound task) = Unfound task.now
question_of (question.Breach task states) = Breach task.now states
question_of (question.Proposed task cert) = Proposed task.now (option_map (λ name. name.now) cert)
question_of (question.Page task cert) = Page task.now (option_map (λ name. name.now) cert)
question_of (question.Log task cert) = Log task.now (option_map (λ name. name.now) cert)
question_of (question.Faulty task) = Faulty task.now
question_of (question.Calls file) = Calls file.now
question_of (question.Followed task calls places) = Followed task.now calls.now (map string_bytes places.now)
question_of (question.Learnt calls) = Learnt (map string_bytes calls.now)
question_of (question.Planned line calls) = Planned line (map string_bytes calls.now)
question_of (question.NamesLeft calls) = NamesLeft (map string_bytes calls.now)
