use Rattle.std.proofs.Common.{rules, ◌<◌, length}
use Rattle.auc_text.specs.Text.{words_of}
use Rattle.auc_reading.proofs.FitLemmas.{session_by}
use Rattle.auc_reading.proofs.NameLemmas.{texts_from}
use Rattle.auc_reading.specs.InnerFields.{all_seven}
use Rattle.auc_reading.specs.SessionLine.{SessionFields}
use Rattle.auc_reading.proofs.session_line.read_session.Goals as goal

pub returns-clause-line : goal.returns-clause-line
returns-clause-line c = λ fit.
    let fields : SessionFields = all_seven c.in_ok-session.session.now c.in_ok-session.imsi.now c.in_ok-session.method.now c.in_ok-session.sname.now c.in_ok-session.pname.now c.in_ok-session.options.now c.in_ok-session.identity.now in
    let texts = texts_from c.args.fields.now fields c.in_ok-method.method c.in_ok-name.name c.in_ok-name.peer_name c.in_ok-name.identity c.in_ok-session.ensures c.in_ok-name.ensures.name c.in_ok-name.ensures.peer fit in
    let known : c.in_ok-sub.sub < length c.args.subs.now = search rules in
    (known, texts.0, texts.2, c.in_ok-session-2.ensures.within, texts.1, texts.3)

pub returns-in_err-require-clause-value : goal.returns-in_err-require-clause-value
returns-in_err-require-clause-value c =
    rw (session_by c.args.subs.now (words_of c.args.fields.now) (all_seven c.in_ok-session.session.now c.in_ok-session.imsi.now c.in_ok-session.method.now c.in_ok-session.sname.now c.in_ok-session.pname.now c.in_ok-session.options.now c.in_ok-session.identity.now) c.in_ok-session-2.session c.in_ok-imsi.imsi c.in_ok-method.method c.in_ok-session.ensures c.in_ok-session-2.ensures.value (rw c.read.ensures at c.in_ok-imsi.ensures.value) (rw c.read_method.ensures at c.in_ok-method.ensures.value), ← (rw c.are_fit.ensures at c.in_err-require.ensures)) (search rules)

pub returns-in_err-sub-clause-value : goal.returns-in_err-sub-clause-value
returns-in_err-sub-clause-value c =
    rw (session_by c.args.subs.now (words_of c.args.fields.now) (all_seven c.in_ok-session.session.now c.in_ok-session.imsi.now c.in_ok-session.method.now c.in_ok-session.sname.now c.in_ok-session.pname.now c.in_ok-session.options.now c.in_ok-session.identity.now) c.in_ok-session-2.session c.in_ok-imsi.imsi c.in_ok-method.method c.in_ok-session.ensures c.in_ok-session-2.ensures.value (rw c.read.ensures at c.in_ok-imsi.ensures.value) (rw c.read_method.ensures at c.in_ok-method.ensures.value), ← (rw c.are_fit.ensures at c.in_ok-require.ensures), ← (rw c.find.ensures.place at c.in_err-sub.ensures.value)) (search rules)

pub returns-clause-value : goal.returns-clause-value
returns-clause-value c =
    rw (session_by c.args.subs.now (words_of c.args.fields.now) (all_seven c.in_ok-session.session.now c.in_ok-session.imsi.now c.in_ok-session.method.now c.in_ok-session.sname.now c.in_ok-session.pname.now c.in_ok-session.options.now c.in_ok-session.identity.now) c.in_ok-session-2.session c.in_ok-imsi.imsi c.in_ok-method.method c.in_ok-session.ensures c.in_ok-session-2.ensures.value (rw c.read.ensures at c.in_ok-imsi.ensures.value) (rw c.read_method.ensures at c.in_ok-method.ensures.value), ← (rw c.are_fit.ensures at c.in_ok-require.ensures), ← (rw c.find.ensures.place at c.in_ok-sub.ensures.value)) (search rules)
