mod LinesExamples
