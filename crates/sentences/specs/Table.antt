-- What is said of each refusal: one sentence for one cause, and one remedy (own). Where a code has several causes, the instruction of the line
-- chooses among them, and the sentence says which are left.
use Rattle.std.specs.Prelude.{◌++◌, ℕ, List, Option, Some, None, codes}
use Rattle.plain.specs.declared.refusal.Code.{Code}
use Rattle.plain.specs.declared.refusal.Code.TheVariants.{R01, R02, R03, R04, R05, R06, R07, R08, R09, R10, R11, R12, R13, R14, R15, R16, R17, R18, R19, R20}
use Rattle.sentences.specs.declared.subject.Subject.{Subject}
use Rattle.sentences.specs.declared.subject.Subject.TheVariants.{From, Arg, Env, Label, Expose, User, Workdir, StopSignal, Volume, Shell, Cmd, Entrypoint, Run, Copy, Add, Onbuild, Healthcheck, Maintainer}

-- the sentence for R04, by the line's instruction: some are left out of the language on purpose
abbrev pub unknown_sentence : Subject → List ℕ
unknown_sentence Add = codes "ADD is left out here on purpose"
unknown_sentence Onbuild = codes "ONBUILD is left out here on purpose"
unknown_sentence Healthcheck = codes "HEALTHCHECK is left out here on purpose: an OCI configuration has no place for it"
unknown_sentence Maintainer = codes "MAINTAINER is left out here on purpose: it is deprecated"
unknown_sentence subject = codes "there is no such instruction here"

-- the sentence for R06, by the line's instruction
abbrev pub arguments_sentence : Subject → List ℕ
arguments_sentence From = codes "FROM takes an image, and after it AS and a name at most"
arguments_sentence Arg = codes "ARG takes one name or more"
arguments_sentence Env = codes "ENV takes names with their values"
arguments_sentence Label = codes "LABEL takes keys with their values"
arguments_sentence Expose = codes "EXPOSE takes one port or more"
arguments_sentence User = codes "this instruction takes one word, which is not empty"
arguments_sentence Workdir = codes "this instruction takes one word, which is not empty"
arguments_sentence StopSignal = codes "this instruction takes one word, which is not empty"
arguments_sentence Volume = codes "VOLUME takes one path or more, none of them empty"
arguments_sentence Shell = codes "SHELL takes a list in JSON with one text or more"
arguments_sentence Cmd = codes "there is nothing to run"
arguments_sentence Entrypoint = codes "there is nothing to run"
arguments_sentence Run = codes "there is nothing to run, or an empty list or heredoc"
arguments_sentence Copy = codes "COPY takes one source or more and a destination, none of them empty"
arguments_sentence subject = codes "the number of arguments is wrong, or one is empty"

-- the sentence for R07, by the line's instruction
abbrev pub flag_sentence : Subject → List ℕ
flag_sentence From = codes "FROM takes no flag here"
flag_sentence Run = codes "RUN takes the flag --mount alone, with a value"
flag_sentence Copy = codes "a flag of COPY is unknown, stands twice, or has a wrong value"
flag_sentence subject = codes "a flag is unknown, stands twice, or has a wrong value"

-- the sentence for R10, by the line's instruction
abbrev pub name_sentence : Subject → List ℕ
name_sentence From = codes "this is no name of a stage"
name_sentence Label = codes "the key of a label is empty"
name_sentence subject = codes "this is no name of a variable"

-- the sentence for R16, by the line's instruction
abbrev pub number_sentence : Subject → List ℕ
number_sentence Expose = codes "a port has to be a number from 1 to 65535, with /tcp or /udp after it at most"
number_sentence subject = codes "the owner and the mode have to be numbers"

-- what is wrong, by the code and the instruction of the line (own)
abbrev pub sentence : Code → Subject → List ℕ
sentence R01 subject = codes "the text is not UTF-8"
sentence R02 subject = codes "this directive stands above already"
sentence R03 subject = codes "the escape character has to be a backslash or a backtick"
sentence R04 subject = unknown_sentence subject
sentence R05 subject = codes "the first instruction other than ARG has to be FROM"
sentence R06 subject = arguments_sentence subject
sentence R07 subject = flag_sentence subject
sentence R08 subject = codes "a heredoc is not closed, or not allowed so"
sentence R09 subject = codes "a quote is open, or a substitution is malformed"
sentence R10 subject = name_sentence subject
sentence R11 subject = codes "a stage above has this name already, whatever the case of its letters"
sentence R12 subject = codes "there is no image of this name, and no stage of it above"
sentence R13 subject = codes "there is no stage of the target's name or number"
sentence R14 subject = codes "several sources need a destination that ends in /"
sentence R15 subject = codes "the pattern of a source is malformed"
sentence R16 subject = number_sentence subject
sentence R17 subject = codes "a mount is malformed, or two mounts clash"
sentence R18 subject = codes "a limit is passed"
sentence R19 subject = codes "a line of the ignore file is malformed"
sentence R20 subject = codes "the input is no bundle"

-- the remedy for R04, by the line's instruction
abbrev pub unknown_remedy : Subject → List ℕ
unknown_remedy Add = codes "use COPY for files, and let a RUN fetch what is on a network and unpack archives"
unknown_remedy Onbuild = codes "write its instruction into each file that is built on this one"
unknown_remedy Healthcheck = codes "drop the line, and give the check to what runs the image"
unknown_remedy Maintainer = codes "write LABEL maintainer=name"
unknown_remedy subject = codes "use FROM, ARG, ENV, LABEL, EXPOSE, USER, WORKDIR, STOPSIGNAL, VOLUME, SHELL, CMD, ENTRYPOINT, RUN or COPY"

-- what is wrong, and after it the name that may have been meant, if there is one (own)
abbrev pub wrong_with : List ℕ → Option (List ℕ) → List ℕ
wrong_with wrong None = wrong
wrong_with wrong (Some name) = wrong ++ (codes "; did you mean " ++ (name ++ codes "?"))

-- the remedy for R06, by the line's instruction
abbrev pub arguments_remedy : Subject → List ℕ
arguments_remedy From = codes "write FROM image or FROM image AS name"
arguments_remedy Arg = codes "write ARG name or ARG name=default"
arguments_remedy Env = codes "write ENV name=value, and quotes around a value with blanks"
arguments_remedy Label = codes "write LABEL key=value, and quotes around a value with blanks"
arguments_remedy Expose = codes "write EXPOSE 80 or EXPOSE 80/udp"
arguments_remedy User = codes "write one word, with quotes around blanks, and give each variable in it a value"
arguments_remedy Workdir = codes "write one word, with quotes around blanks, and give each variable in it a value"
arguments_remedy StopSignal = codes "write one word, with quotes around blanks, and give each variable in it a value"
arguments_remedy Volume = codes "write VOLUME /path or VOLUME [\"/path\"], and give each variable in it a value"
arguments_remedy Shell = codes "write SHELL [\"/bin/sh\", \"-c\"]"
arguments_remedy Cmd = codes "write a command, or a list in JSON"
arguments_remedy Entrypoint = codes "write a command, or a list in JSON"
arguments_remedy Run = codes "write a command, a list in JSON with one text or more, or a heredoc with a line"
arguments_remedy Copy = codes "write COPY source destination, and give each variable in it a value"
arguments_remedy subject = codes "write as many as the instruction takes"

-- the remedy for R07, by the line's instruction
abbrev pub flag_remedy : Subject → List ℕ
flag_remedy From = codes "drop the flag (--platform is left out on purpose: an image comes with the bundle)"
flag_remedy Run = codes "drop the flag, or write --mount=type=cache,target=/path"
flag_remedy Copy = codes "write --from=name, --chown=1000:1000, --chmod=644 or --link, each once at most"
flag_remedy subject = codes "drop the flag, or mend its value"

-- the remedy for R08, by the line's instruction
abbrev pub heredoc_remedy : Subject → List ℕ
heredoc_remedy Run = codes "close it by a line with its name alone; give RUN one heredoc with nothing beside it and without #! in it"
heredoc_remedy Copy = codes "close it by a line with its name alone; let it be a source, a word of its own, and without --from"
heredoc_remedy subject = codes "close it by a line with its name alone"

-- the remedy for R10, by the line's instruction
abbrev pub name_remedy : Subject → List ℕ
name_remedy From = codes "begin with a letter, go on with letters, digits, -, _ and ., and take another name than scratch"
name_remedy Label = codes "give each variable in the key a value, or write the key out"
name_remedy subject = codes "begin with a letter or _, and go on with letters, digits and _"

-- the remedy for R16, by the line's instruction
abbrev pub number_remedy : Subject → List ℕ
number_remedy Expose = codes "write EXPOSE 80 or EXPOSE 80/udp, without leading zeros"
number_remedy subject = codes "write --chown=1000:1000 and --chmod=644 (names would need the image's /etc/passwd)"

-- what helps, by the code and the instruction of the line (own)
abbrev pub remedy : Code → Subject → List ℕ
remedy R01 subject = codes "save the file as UTF-8"
remedy R02 subject = codes "drop one of the two"
remedy R03 subject = codes "write # escape=\\ or # escape=`"
remedy R04 subject = unknown_remedy subject
remedy R05 subject = codes "begin with FROM and an image, or with FROM scratch"
remedy R06 subject = arguments_remedy subject
remedy R07 subject = flag_remedy subject
remedy R08 subject = heredoc_remedy subject
remedy R09 subject = codes "close the quote; write ${name}, ${name:-word}, ${name:+word} or ${name:?word}, and \\$ for the character $"
remedy R10 subject = name_remedy subject
remedy R11 subject = codes "rename one of the two"
remedy R12 subject = codes "pack the image by --image NAME=FILE, or name a stage above"
remedy R13 subject = codes "name a stage of the file, or count from 0"
remedy R14 subject = codes "write / at the end of the destination"
remedy R15 subject = codes "close each [, and write \\[ where the character [ is meant"
remedy R16 subject = number_remedy subject
remedy R17 subject = codes "write type=bind or type=cache (tmpfs, secret and ssh are left out on purpose), keys once each, and targets that are neither / nor within one another"
remedy R18 subject = codes "split the file or the instruction, or shorten the value or the path"
remedy R19 subject = codes "mend this line of .dockerignore"
remedy R20 subject = codes "make it by dfsolve pack, or see what a bundle is in docs/FORMATS.md"

-- what is wrong if a variable that is required doesn't pass its test (R21), before the text that the line is refused with, and what helps (own)
abbrev pub required_sentence : List ℕ
required_sentence = codes "a required variable is unset or empty"

abbrev pub required_remedy : List ℕ
required_remedy = codes "give it a value above, by ENV or ARG, or by a build argument that an ARG takes"
